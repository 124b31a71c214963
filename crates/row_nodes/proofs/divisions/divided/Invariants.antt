use Rattle.std.proofs.Common.{◌≡◌, ◌≤◌, ◌+◌, length, drop}
use Rattle.nodes.specs.Nodes.{Grows}
use Rattle.nodes.specs.Names.{bits_at, AreWithin}
use Rattle.rows.specs.Rows.{division}
use Rattle.row_nodes.proofs.divisions.divided.Given as goal

abbrev pub invariant-loop-i : goal.invariant-loop-i
invariant-loop-i l = record {
  start : Grows l.initial.table l.table;
  grows : Grows l.fn.table l.table;
  low : l.i ≤ length l.xs;
  quotient_within : AreWithin l.table l.quotient.items;
  quotient_sized : length l.quotient.items + l.i ≡ length l.xs;
  remainder_within : AreWithin l.table l.remainder.items;
  remainder_sized : length l.remainder.items ≡ length l.ys;
  quotient : bits_at l.table l.quotient.items ≡ (division (bits_at l.fn.table (drop l.i l.xs)) (bits_at l.fn.table l.ys)).quotient;
  remainder : bits_at l.table l.remainder.items ≡ (division (bits_at l.fn.table (drop l.i l.xs)) (bits_at l.fn.table l.ys)).remainder;
}

abbrev pub decreases-loop-i : goal.decreases-loop-i
decreases-loop-i l = l.i
