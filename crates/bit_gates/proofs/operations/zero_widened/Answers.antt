use Rattle.std.proofs.Common.{false, ap, ap₂, ◌∙◌}
use Rattle.std.proofs.lemmas.Result.{IfOk-weaker}
use Rattle.gates.specs.Bits.{constant}
use Rattle.nodes.specs.Names.{bits_at}
use Rattle.nodes.proofs.GrowthLemmas.{all_stay}
use Rattle.rows.specs.Rows.{widened}
use Rattle.bit_gates.proofs.TermRows.{widened_bits}
use Rattle.bit_gates.proofs.operations.zero_widened.Goals as goal

pub returns-clause-bits : goal.returns-clause-bits
returns-clause-bits c =
    let old = c.args.table.now in
    let one = c.constant.new.self in
    let xs = c.args.xs.now in
    IfOk-weaker c.widened.result _ _ (λ row e. ap (bits_at one) e ∙ widened_bits one xs c.from.result c.in_ok-zero.zero ∙ ap₂ (λ w b. widened w b (bits_at one xs)) c.from.ensures c.in_ok-zero.ensures.bit ∙ ap (widened c.args.width (constant false)) (all_stay old one c.constant.ensures.grows xs c.requires.row)) c.widened.ensures
