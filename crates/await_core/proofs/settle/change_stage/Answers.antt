use Rattle.await_core.proofs.OnRecords.{set-stage}
use Rattle.await_core.proofs.settle.change_stage.Goals as goal

pub returns-clause-after : goal.returns-clause-after
returns-clause-after g c =
    rw c.replace.ensures.after (set-stage c.args.records.now.items c.args.at c.index_mut-record.result.now c.args.stage c.requires c.index_mut-record.ensures.value)
