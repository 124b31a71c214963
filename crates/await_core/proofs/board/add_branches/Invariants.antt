use Rattle.std.proofs.Common.{◌≡◌}
use Rattle.await_core.specs.Events.{branches}
use Rattle.await_core.proofs.board.add_branches.Given as goal

abbrev pub invariant-loop-node : goal.invariant-loop-node
invariant-loop-node g l = l.tasks.items ≡ branches l.ticket 0 l.yielded
