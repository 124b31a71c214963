use Rattle.std.proofs.Common.{◌≡◌, [], ap, ◌∙◌}
use Rattle.std.proofs.lemmas.Result.{IfOk-weaker}
use Rattle.leaf_lines.specs.Report.{report_of}
use Rattle.report.specs.Reports.{Tells}
use Rattle.report.proofs.reporting.report_in.Goals as goal

pub returns : goal.returns
returns g c =
    IfOk-weaker c.report.result (λ written. written.items ≡ report_of c.args.program.now c.args.options [] c.as_slice.result.now) (λ written. Tells c.args.program.now c.args.options written.items)
    (λ written e. (c.in_ok-leaves.leaves.items, c.in_ok-leaves.ensures.leaves, e ∙ ap (λ ls. report_of c.args.program.now c.args.options [] ls) c.as_slice.ensures.value)) c.report.ensures
