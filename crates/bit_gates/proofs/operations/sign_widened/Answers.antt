use Rattle.std.proofs.Common.{ap, ap₂, ◌∙◌}
use Rattle.std.proofs.lemmas.Result.{IfOk-weaker}
use Rattle.nodes.specs.Names.{bits_at}
use Rattle.rows.specs.Rows.{widened}
use Rattle.bit_gates.proofs.TermRows.{widened_bits}
use Rattle.bit_gates.proofs.operations.sign_widened.Goals as goal

pub returns-clause-bits : goal.returns-clause-bits
returns-clause-bits c =
    let table = c.args.table.now in
    let xs = c.args.xs.now in
    IfOk-weaker c.widened.result _ _ (λ row e. ap (bits_at table) e ∙ widened_bits table xs c.from.result c.top.result ∙ ap₂ (λ w b. widened w b (bits_at table xs)) c.from.ensures (c.top.ensures.bit table)) c.widened.ensures
