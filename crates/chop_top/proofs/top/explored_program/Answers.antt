use Rattle.std.proofs.Common.{IfOk, subst}
use Rattle.report.specs.Reports.{IsReport}
use Rattle.chop_top.proofs.Answering.{judged-report}
use Rattle.chop_top.proofs.top.explored_program.Goals as goal

pub returns : goal.returns
returns c bytes file reads =
    judged-report bytes file c.args.options c.args.program.now c.report_text.result c.text_or_memory.result reads
    (subst (λ e. IfOk c.report_text.result (λ w. IsReport c.args.program.now e w.items)) c.exploration_of-exploration.ensures c.report_text.ensures.report) c.text_or_memory.ensures
