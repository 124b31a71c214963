use Rattle.readable_trees.proofs.trees_that_are_read_are_readable.Goals as goal
use Rattle.readable_trees.proofs.Module.{trees_are_readable}

pub returns : goal.returns
returns c = record { readable = trees_are_readable }
