use Rattle.std.proofs.Common.{◌≡◌, Some}
use Rattle.std.proofs.lemmas.Result.{IfOk-weaker}
use Rattle.refusal_lines.specs.Refusals.{misread_line}
use Rattle.chop_top.proofs.Stopping.{stop-says}
use Rattle.chop_top.specs.Refusals.{IsMisread}
use Rattle.chop_top.proofs.accepting.misread.Goals as goal

pub returns : goal.returns
returns c bytes says =
    stop-says (IsMisread bytes) c.misread_line.result c.stopped.result c.stopped.ensures
    (IfOk-weaker c.misread_line.result (λ l. misread_line c.args.error.now ≡ Some l.items) (λ l. IsMisread bytes l.items)
    (λ l e. record { error = c.args.error.now; says = says; line = e }) c.misread_line.ensures)
