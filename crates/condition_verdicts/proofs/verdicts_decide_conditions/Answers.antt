use Rattle.condition_verdicts.proofs.InputLemmas.{found_meets, found_is_least, none_meets, is_decided}
use Rattle.condition_verdicts.proofs.verdicts_decide_conditions.Goals as goal

pub returns-clause-met : goal.returns-clause-met
returns-clause-met c = λ terms budget values h. found_meets terms h budget values

pub returns-clause-least : goal.returns-clause-least
returns-clause-least c = λ terms budget values bytes h. found_is_least terms h budget values bytes

pub returns-clause-none : goal.returns-clause-none
returns-clause-none c = λ terms budget log bytes h. none_meets terms h budget log bytes

pub returns-clause-decided : goal.returns-clause-decided
returns-clause-decided c = is_decided
