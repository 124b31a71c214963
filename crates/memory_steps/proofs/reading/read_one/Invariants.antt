use Rattle.std.proofs.Common.{◌≡◌, ◌-◌, ◌^◌, length}
use Rattle.sym_states.specs.Attempts.{read_on}
use Rattle.state_laws.specs.Kept.{StateFitsAt}
use Rattle.state_sides.specs.Views.{state_seen, context_of}
use Rattle.memory_steps.proofs.reading.read_one.Given as goal

-- what is left to be tried leads to the whole
abbrev pub invariant-tests : goal.invariant-tests
invariant-tests g l = record {
  leads : read_on (context_of l.machine.scope) l.object l.at l.tests (state_seen l.state) ≡ read_on (context_of l.machine.scope) l.object l.at (2 ^ 64 - 1) (state_seen l.fn.state);
  fits : StateFitsAt (length l.fn.state.kept) (state_seen l.state);
}

abbrev pub decreases-tests : goal.decreases-tests
decreases-tests g l = l.tests
