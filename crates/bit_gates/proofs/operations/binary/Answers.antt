use Rattle.std.proofs.Common.{[], ◌∷◌, sym, ap, ◌∙◌}
use Rattle.std.proofs.lemmas.Result.{IfOk-weaker}
use Rattle.nodes.specs.Names.{bits_at}
use Rattle.nodes.proofs.GrowthLemmas.{bits_at-append}
use Rattle.term_bits.specs.TermBits.{bits_of_two}
use Rattle.bit_gates.proofs.TermRows.{single_bits}
use Rattle.bit_gates.proofs.operations.binary.Goals as goal

pub returns-in_ok-equal-in-Eq-clause-bits : goal.returns-in_ok-equal-in-Eq-clause-bits
returns-in_ok-equal-in-Eq-clause-bits c =
    let old = c.args.table.now in
    let one = c.equal.new.table in
    let k = c.in_ok-equal-in-Eq.field-0 in
    IfOk-weaker c.single.result _ _ (λ row e. ap (bits_at one) e ∙ single_bits one k ∙ ap (λ b. b ∷ []) c.in_ok-equal-in-Eq.ensures.bit ∙ ap (λ op. bits_of_two op (bits_at old c.args.xs.now) (bits_at old c.args.ys.now)) (sym c.in-Eq.is)) c.single.ensures

pub returns-in_ok-less-in-Ult-clause-bits : goal.returns-in_ok-less-in-Ult-clause-bits
returns-in_ok-less-in-Ult-clause-bits c =
    let old = c.args.table.now in
    let one = c.less.new.table in
    let k = c.in_ok-less-in-Ult.field-0 in
    IfOk-weaker c.single-in-Ult.result _ _ (λ row e. ap (bits_at one) e ∙ single_bits one k ∙ ap (λ b. b ∷ []) c.in_ok-less-in-Ult.ensures.bit ∙ ap (λ op. bits_of_two op (bits_at old c.args.xs.now) (bits_at old c.args.ys.now)) (sym c.in-Ult.is)) c.single-in-Ult.ensures

pub returns-in_ok-signed_less-in-Slt-clause-bits : goal.returns-in_ok-signed_less-in-Slt-clause-bits
returns-in_ok-signed_less-in-Slt-clause-bits c =
    let old = c.args.table.now in
    let one = c.signed_less.new.table in
    let k = c.in_ok-signed_less-in-Slt.field-0 in
    IfOk-weaker c.single-in-Slt.result _ _ (λ row e. ap (bits_at one) e ∙ single_bits one k ∙ ap (λ b. b ∷ []) c.in_ok-signed_less-in-Slt.ensures.bit ∙ ap (λ op. bits_of_two op (bits_at old c.args.xs.now) (bits_at old c.args.ys.now)) (sym c.in-Slt.is)) c.single-in-Slt.ensures

pub returns-in-Join-clause-bits : goal.returns-in-Join-clause-bits
returns-in-Join-clause-bits c =
    let table = c.args.table.now in
    IfOk-weaker c.joined.result _ _ (λ row e. ap (bits_at table) e ∙ bits_at-append table c.args.xs.now c.args.ys.now ∙ ap (λ op. bits_of_two op (bits_at table c.args.xs.now) (bits_at table c.args.ys.now)) (sym c.in-Join.is)) c.joined.ensures
