use Rattle.std.proofs.Common.{arith}
use Rattle.await_core.proofs.OnRecords.{out_record}
use Rattle.await_core.proofs.OnTurns.{some_is_out}
use Rattle.await_core.proofs.OnPosts.{sound_branched, held_branched}
use Rattle.await_core.proofs.board.Board.branch.Goals as goal

pub overflow_sub-self : goal.overflow_sub-self
overflow_sub-self g c =
    let s = c.self.inside in
    omega (arith, some_is_out s.records.items s.handed s.out s.refused s.value c.args.ticket c.self.invariant.0 (out_record s.records.items c.args.ticket (rw (← c.self.view_is) at c.requires.out)))

pub invariant_of-self-2 : goal.invariant_of-self-2
invariant_of-self-2 g c =
    let s = c.self.inside in
    let o = out_record s.records.items c.args.ticket (rw (← c.self.view_is) at c.requires.out) in
    rw (c.put_stage.ensures.after, c.stage_of.ensures, c.in_ok-slots.ensures, c.len.ensures, c.in_ok-add_branches.ensures.ok) (
      sound_branched s.records.items s.handed s.out s.refused s.value c.args.ticket c.args.nodes c.args.rest c.self.invariant.0 o c.requires.some,
      omega (arith, held_branched s.records.items c.args.ticket c.args.nodes c.args.rest o, c.self.invariant.1),
    )
