use Rattle.std.proofs.Common.{◌∙◌, ap}
use Rattle.log_laws.specs.Needs.{left_behind_all, recovered_at}
use Rattle.sym_bytes.proofs.Ints.{item_first}
use Rattle.write_log.proofs.Offsets.{fills_step}
use Rattle.write_log.proofs.covers.left_behind_fills.Goals as goal

pub loop-fill-preserved : goal.loop-fill-preserved
loop-fill-preserved g c =
    fills_step c.args.name.now c.args.fills.now c.loop-fill.fill-index c.fill-item.result c.loop-fill.left c.in_ok-left.left (left_behind_all c.args.name.now (recovered_at c.args.fills.now) c.args.wanted)
    (item_first c.args.fills.now c.loop-fill.fill-index c.fill-item.result c.loop-fill-test.true c.fill-item.is)
    (c.in_ok-left.ensures ∙ ap (λ es. left_behind_all c.args.name.now es c.loop-fill.left) c.entries.ensures)
    c.loop-fill.invariant
