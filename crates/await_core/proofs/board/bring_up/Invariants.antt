use Rattle.std.proofs.Common.{◌≡◌, ◌<◌, length}
use Rattle.await_core.specs.Boards.{works_of}
use Rattle.await_core.specs.Finishing.{BringsFor}
use Rattle.await_core.proofs.board.bring_up.Given as goal

abbrev pub invariant-up : goal.invariant-up
invariant-up g l = record {
  within : l.at < length l.records.items;
  works : works_of l.records.items ≡ works_of l.initial.records.items;
  len : length l.records.items ≡ length l.initial.records.items;
  brings : BringsFor (g.T.Tree.meaning l.tree) l.records.items l.value l.held l.at l.worth;
}

abbrev pub decreases-up : goal.decreases-up
decreases-up g l = l.at
