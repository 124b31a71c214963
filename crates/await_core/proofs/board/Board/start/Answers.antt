use Rattle.std.proofs.Common.{arith}
use Rattle.await_core.proofs.OnStanding.{stands_started}
use Rattle.await_core.proofs.OnTurns.{sound_started}
use Rattle.await_core.proofs.OnReaching.{reached_stands}
use Rattle.await_core.proofs.board.Board.start.Goals as goal

pub returns-clause-stands : goal.returns-clause-stands
returns-clause-stands g c tree =
    rw (c.in_ok-push.ensures.items, c.new-records.ensures.items, c.in_ok-work.ensures.0, c.in_ok-work.ensures.1) (stands_started tree c.args.root)

pub invariant_of-result : goal.invariant_of-result
invariant_of-result g c =
    rw (c.in_ok-push.ensures.items, c.new-records.ensures.items, c.in_ok-work.ensures.0, c.in_ok-work.ensures.1) (sound_started c.args.root, omega arith)

pub returns-clause-events : goal.returns-clause-events
returns-clause-events g c tree node b reaches = reached_stands tree node reaches

pub returns-in_err-work-clause-events : goal.returns-in_err-work-clause-events
returns-in_err-work-clause-events g c tree node b reaches = reached_stands tree node reaches

pub returns-in_err-push-clause-events : goal.returns-in_err-push-clause-events
returns-in_err-push-clause-events g c tree node b reaches = reached_stands tree node reaches
