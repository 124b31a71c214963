use Rattle.std.proofs.lemmas.Result.{IfOk-weaker}
use Rattle.report.specs.Reports.{IsReport, Tells}
use Rattle.report.proofs.Reported.{reported}
use Rattle.report.proofs.reporting.report_text.Goals as goal

pub returns : goal.returns
returns c = record {
  report = IfOk-weaker c.report_of.result (λ written. Tells c.args.program.now c.args.options written.items) (λ written. IsReport c.args.program.now c.args.options written.items)
      (λ written tells. reported c.args.program.now c.args.options written.items c.requires.inputs c.parts.ensures.whole c.requires.checked c.numbers_fit.ensures c.program_fits.ensures.program tells) c.report_of.ensures;
}
