use Rattle.std.proofs.Common.{◌≡◌, drop}
use Rattle.terms.specs.Tree.{width_of}
use Rattle.sym_states.specs.Terms.{moved_by_all}
use Rattle.state_sides.specs.Views.{state_seen}
use Rattle.number_steps.proofs.making.moved_by_all.Given as goal

abbrev pub invariant-moves : goal.invariant-moves
invariant-moves g l = (width_of l.moved ≡ 64) × (moved_by_all (state_seen l.state) l.moved (drop l.part-index l.parts) ≡ moved_by_all (state_seen l.state) l.offset l.parts)
