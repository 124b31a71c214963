use Rattle.std.proofs.Common.{◌≡◌, ◌++◌, drop, map, length}
use Rattle.leaves.specs.Fitting.{AreTermsOf}
use Rattle.sym_states.specs.Sides.{offsprings}
use Rattle.state_sides.specs.Offers.{offspring_seen}
use Rattle.state_sides.specs.Views.{state_seen, context_of}
use Rattle.state_sides.proofs.states.Machine.offsprings.Given as goal

abbrev pub invariant-sides : goal.invariant-sides
invariant-sides g l = record {
  counted : l.side ≡ l.conjunct-index;
  made : map offspring_seen l.offsprings.items ++ offsprings (context_of l.self.scope) (state_seen l.state) l.side (drop l.conjunct-index l.sides) ≡ offsprings (context_of l.self.scope) (state_seen l.state) 0 l.sides;
  truths : AreTermsOf (length l.state.kept) 1 (drop l.conjunct-index l.sides);
}
