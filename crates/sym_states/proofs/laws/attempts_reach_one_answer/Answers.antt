use Rattle.sym_states.proofs.Steady.{reaches_one}
use Rattle.sym_states.proofs.laws.attempts_reach_one_answer.Goals as goal

pub returns : goal.returns
returns c = reaches_one
