use Rattle.std.proofs.Common.{arith}
use Rattle.await_core.proofs.OnSlots.{sum_more}
use Rattle.await_core.proofs.slots.sum_of.Goals as goal

pub loop-count-preserved : goal.loop-count-preserved
loop-count-preserved c =
    let e = sum_more c.args.tasks.now c.loop-count.count-index c.loop-count-test.true in
    omega (arith, e, c.loop-count.invariant, c.saturating_add-sum.ensures, c.unwrap_or.ensures)
