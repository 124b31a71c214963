use Rattle.sym_states.proofs.Evaluating.{computed}
use Rattle.sym_states.proofs.laws.computed_leaves_are_explored.Goals as goal

pub returns : goal.returns
returns c = computed
