use Rattle.right_leaves.proofs.Right.{leaves-right}
use Rattle.right_leaves.proofs.laws.leaves_are_right.Goals as goal

pub returns : goal.returns
returns c = leaves-right
