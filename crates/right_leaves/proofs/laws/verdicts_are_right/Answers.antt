use Rattle.right_leaves.proofs.Verdicts.{decided-right, decided-size}
use Rattle.right_leaves.proofs.laws.verdicts_are_right.Goals as goal

pub returns-clause-right : goal.returns-clause-right
returns-clause-right c = decided-right

pub returns-clause-size : goal.returns-clause-size
returns-clause-size c = decided-size
