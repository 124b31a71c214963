use Rattle.std.proofs.Common.{◌≡◌}
use Rattle.std.proofs.lemmas.Result.{IfOk-weaker}
use Rattle.refusal_lines.specs.Refusals.{unchecked_line}
use Rattle.chop_top.proofs.Stopping.{stop-says}
use Rattle.chop_top.specs.Refusals.{IsUncheckedProgram}
use Rattle.chop_top.proofs.accepting.unchecked.Goals as goal

pub returns : goal.returns
returns c =
    stop-says (IsUncheckedProgram c.args.program.now) c.unchecked_line.result c.stopped.result c.stopped.ensures
    (IfOk-weaker c.unchecked_line.result (λ l. l.items ≡ unchecked_line c.args.program.now c.args.error) (λ l. IsUncheckedProgram c.args.program.now l.items)
    (λ l e. record { error = c.args.error; first = c.requires; line = e }) c.unchecked_line.ensures)
