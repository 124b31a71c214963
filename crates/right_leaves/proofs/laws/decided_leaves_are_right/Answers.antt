use Rattle.right_leaves.proofs.Right.{decided-leaves-right}
use Rattle.right_leaves.proofs.laws.decided_leaves_are_right.Goals as goal

pub returns : goal.returns
returns c = decided-leaves-right
