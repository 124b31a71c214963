use Rattle.std.proofs.Common.{false, ap, ap₂, ◌∙◌}
use Rattle.gates.specs.Bits.{constant}
use Rattle.nodes.specs.Names.{bits_at}
use Rattle.nodes.proofs.GrowthLemmas.{all_stay, made}
use Rattle.rows.specs.Rows.{added}
use Rattle.bit_gates.proofs.operations.sum.Goals as goal

pub returns-clause-bits : goal.returns-clause-bits
returns-clause-bits c =
    let old = c.args.table.now in
    let one = c.constant.new.self in
    let grown = c.constant.ensures.grows in
    let xs = c.args.xs.now in
    let ys = c.args.ys.now in
    made c.added.result (λ row. bits_at c.added.new.table row.items) _ _ c.added.ensures.bits (ap (λ b. added b (bits_at one xs) (bits_at one ys)) c.in_ok-zero.ensures.bit ∙ ap₂ (added (constant false)) (all_stay old one grown xs c.requires.left) (all_stay old one grown ys c.requires.right))
