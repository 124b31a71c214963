use Rattle.term_bits.proofs.ConditionLemmas.{found_input}
use Rattle.term_bits.proofs.models_are_inputs_that_meet.Goals as goal

pub returns : goal.returns
returns c = found_input
