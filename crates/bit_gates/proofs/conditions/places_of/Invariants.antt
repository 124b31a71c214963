use Rattle.std.proofs.Common.{◌≡◌, take}
use Rattle.nodes.specs.Names.{bits_at, AreWithin}
use Rattle.term_bits.specs.Conditions.{condition_bits}
use Rattle.bit_gates.specs.Rows.{AreRows}
use Rattle.bit_gates.proofs.conditions.places_of.Given as goal

abbrev pub invariant-loop-t : goal.invariant-loop-t
invariant-loop-t g l = record {
  known : AreRows l.table l.memo;
  within : AreWithin l.table l.places.items;
  bits : bits_at l.table l.places.items ≡ condition_bits (take l.t-index l.condition);
}
