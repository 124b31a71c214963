use Rattle.term_bits.proofs.ConditionLemmas.{model_of_input, input_of_model}
use Rattle.term_bits.proofs.clauses_say_which_inputs_meet.Goals as goal

pub returns : goal.returns
returns c = λ terms bytes h. (model_of_input terms bytes h, input_of_model terms bytes h)
