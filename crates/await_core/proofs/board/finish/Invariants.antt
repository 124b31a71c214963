use Rattle.std.proofs.Common.{◌≡◌, ◌≤◌, length}
use Rattle.await_core.specs.Boards.{works_of}
use Rattle.await_core.specs.Finishing.{HoldsFor}
use Rattle.await_core.proofs.board.finish.Given as goal

abbrev pub invariant-loop-at : goal.invariant-loop-at
invariant-loop-at g l = record {
  within : l.at ≤ length l.records.items;
  works : works_of l.records.items ≡ works_of l.initial.records.items;
  holds : HoldsFor (g.T.Tree.meaning l.fn.tree) l.records.items l.value l.held;
}

abbrev pub decreases-loop-at : goal.decreases-loop-at
decreases-loop-at g l = l.at
