use Rattle.await_core.proofs.OnRecords.{only_open, open_work}
use Rattle.await_core.proofs.board.hand_out.Goals as goal

pub unreachable-requires : goal.unreachable-requires
unreachable-requires g c =
    only_open c.args.records.now.items c.args.at c.change_stage.result c.requires.open c.change_stage.ensures.before (λ k e. c.in_default.not-Open k e)

pub returns-clause-work : goal.returns-clause-work
returns-clause-work g c = open_work c.args.records.now.items c.args.at c.in-Open.work c.requires.open c.in-Open.ensures.before
