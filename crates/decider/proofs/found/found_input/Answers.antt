use Rattle.std.proofs.Common.{◌≡◌, ◌<◌, ◌*◌, ◌+◌, ◌-◌, false, get_or, ap, ◌∙◌, arith}
use Rattle.decider.specs.Found.{AreInputsOf, HasBits, found_bit}
use Rattle.decider.proofs.FoundLemmas.{byte_bits, input_more, input_whole}
use Rattle.decider.proofs.found.found_input.Goals as goal

pub loop-k-preserved : goal.loop-k-preserved
loop-k-preserved c =
    let values = c.args.values.now in
    let k = c.loop-k.k in
    let few : k < 64 = omega (arith, c.loop-k-test.true, c.from-k-end.ensures, c.requires.inputs) in
    let eight : (8 * k + 8) - 8 * k ≡ 8 = omega arith in
    λ condition names.
    let given : AreInputsOf condition c.deref.result.now c.deref-2.result.now = record { order_is = c.deref.ensures.value ∙ names.order_is; bits_are = c.deref-2.ensures.value ∙ names.bits_are } in
    let bits : HasBits condition values c.deref-in-loop-k.result.now = λ j low. ap (λ s. get_or s j false) c.deref-in-loop-k.ensures.value ∙ c.in_ok-set.ensures.bits condition given j low in
    let byte = c.byte_of.ensures (found_bit condition values) k (λ p low. byte_bits condition values c.deref-in-loop-k.result.now k ((8 * k + 8) - 8 * k) p bits eight low few) in
    input_more condition values c.loop-k.input c.push.new.self k c.byte_of.result c.in_ok-push.ensures.ok (c.loop-k.invariant condition names) byte

pub returns : goal.returns
returns c =
    let end : c.loop-k.k ≡ c.args.inputs = omega (arith, c.loop-k-test.false, c.loop-k.auto.k-end, c.from-k-end.ensures) in
    λ condition names. input_whole condition c.args.values.now c.loop-k.input c.args.inputs c.loop-k.k c.requires.inputs end (c.loop-k.invariant condition names)
