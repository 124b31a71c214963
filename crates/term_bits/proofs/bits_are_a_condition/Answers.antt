use Rattle.term_bits.proofs.ConditionLemmas.{is_condition, meets_bits, meets_terms}
use Rattle.term_bits.proofs.bits_are_a_condition.Goals as goal

pub returns-clause-condition : goal.returns-clause-condition
returns-clause-condition c = is_condition

pub returns-clause-met : goal.returns-clause-met
returns-clause-met c = λ terms bytes h. (meets_bits terms bytes h, meets_terms terms bytes h)
