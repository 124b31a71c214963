use Rattle.std.proofs.Common.{◌≡◌, Some, arith}
use Rattle.await_core.specs.declared.record.Stage.TheVariants.{Out}
use Rattle.await_core.specs.Boards.{stage_at}
use Rattle.await_core.proofs.OnRecords.{out_record}
use Rattle.await_core.proofs.OnTurns.{some_is_out, sound_refused, held_refused}
use Rattle.await_core.proofs.OnEvents.{stands_refused}
use Rattle.await_core.proofs.board.Board.refuse.Goals as goal

pub overflow_sub-self : goal.overflow_sub-self
overflow_sub-self g c =
    let s = c.self.inside in
    let is_out : stage_at s.records.items c.args.ticket ≡ Some Out = rw c.as_slice.ensures.value at (c.is_out.ensures.0 c.if-not-is_out.false) in
    omega (arith, some_is_out s.records.items s.handed s.out s.refused s.value c.args.ticket c.self.invariant.0 (out_record s.records.items c.args.ticket is_out))

pub invariant_of-self : goal.invariant_of-self
invariant_of-self g c =
    let s = c.self.inside in
    let is_out : stage_at s.records.items c.args.ticket ≡ Some Out = rw c.as_slice.ensures.value at (c.is_out.ensures.0 c.if-not-is_out.false) in
    let o = out_record s.records.items c.args.ticket is_out in
    rw (c.put_stage.ensures.after, c.first_of-self-inside.ensures) (sound_refused s.records.items s.handed s.out s.refused s.value c.args.ticket c.self.invariant.0 o, omega (arith, held_refused s.records.items c.args.ticket o, c.self.invariant.1))

pub returns-clause-stands : goal.returns-clause-stands
returns-clause-stands g c tree root stands =
    rw (c.put_stage.ensures.after, c.first_of-self-inside.ensures) (stands_refused tree root _ c.args.ticket (rw (← c.self.view_is) at stands))
