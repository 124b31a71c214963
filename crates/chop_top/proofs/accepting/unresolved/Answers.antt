use Rattle.std.proofs.Common.{◌≡◌, Some}
use Rattle.std.proofs.lemmas.Result.{IfOk-weaker}
use Rattle.refusal_lines.specs.Refusals.{unresolved_line}
use Rattle.chop_top.proofs.Stopping.{stop-says}
use Rattle.chop_top.specs.Refusals.{IsUnresolvedTree}
use Rattle.chop_top.proofs.accepting.unresolved.Goals as goal

pub returns : goal.returns
returns c tree says =
    stop-says (IsUnresolvedTree tree) c.unresolved_line.result c.stopped.result c.stopped.ensures
    (IfOk-weaker c.unresolved_line.result (λ l. unresolved_line c.args.error.now ≡ Some l.items) (λ l. IsUnresolvedTree tree l.items)
    (λ l e. record { error = c.args.error.now; says = says; line = e }) c.unresolved_line.ensures)
