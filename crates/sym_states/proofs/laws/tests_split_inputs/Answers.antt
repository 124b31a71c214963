use Rattle.sym_states.proofs.Splits.{tests_split}
use Rattle.sym_states.proofs.laws.tests_split_inputs.Goals as goal

pub returns : goal.returns
returns c = tests_split
