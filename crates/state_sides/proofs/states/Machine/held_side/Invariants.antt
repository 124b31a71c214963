use Rattle.std.proofs.Common.{◌≡◌, drop}
use Rattle.sym_states.specs.Sides.{held_side}
use Rattle.sym_states.specs.Fitting.{HaveOneBit}
use Rattle.state_sides.proofs.states.Machine.held_side.Given as goal

abbrev pub invariant-sides : goal.invariant-sides
invariant-sides g l = record {
  counted : l.side ≡ l.conjunct-index;
  held : held_side l.condition 0 l.sides ≡ held_side l.condition l.side (drop l.conjunct-index l.sides);
  bits : HaveOneBit (drop l.conjunct-index l.sides);
}
