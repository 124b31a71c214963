use Rattle.std.proofs.Common.{◌≡◌, Some}
use Rattle.await_core.specs.declared.record.Stage.TheVariants.{Out}
use Rattle.await_core.specs.Boards.{stage_at}
use Rattle.await_core.proofs.OnEvents.{stands_posted}
use Rattle.await_core.proofs.board.Board.post.Goals as goal

pub returns-in-Ok-clause-stands : goal.returns-in-Ok-clause-stands
returns-in-Ok-clause-stands g c tree root stands answer =
    let out : stage_at c.args.self.now.records c.args.ticket ≡ Some Out = rw (← c.self.view_is) (rw c.as_slice.ensures.value at (c.is_out.ensures.0 c.if-not-is_out.false)) in
    stands_posted tree root c.args.self.now c.keep.new.self c.args.ticket c.args.made stands out answer c.in-Ok.ensures.ok

pub returns-in-Err-clause-stands : goal.returns-in-Err-clause-stands
returns-in-Err-clause-stands g c tree root stands answer = c.refuse-given_up.ensures.stands tree root (rw c.in-Err.ensures.err stands)
