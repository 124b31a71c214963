use Rattle.await_core.proofs.OnTurns.{branch_pushed}
use Rattle.await_core.proofs.board.add_branches.Goals as goal

pub loop-node-preserved : goal.loop-node-preserved
loop-node-preserved g c =
    branch_pushed c.args.ticket c.loop-node.yielded c.in-Some.node c.in_ok-work.work c.in_ok-work.kept c.len-place.result _ c.loop-node.tasks.items c.push.new.self.items
    c.loop-node.invariant c.in_ok-work.ensures.0 c.in_ok-work.ensures.1 c.len-place.ensures c.loop-node.tasks.ok.0 c.in_ok-push.ensures.items
