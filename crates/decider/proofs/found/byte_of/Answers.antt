use Rattle.std.proofs.Common.{◌≡◌, ◌+◌, ◌*◌, ◌<◌, Bool, false, get_or, sym, ap, ◌∙◌, arith}
use Rattle.rows.specs.Numbers.{digit}
use Rattle.rows.proofs.BitValues.{digit-lt}
use Rattle.decider.proofs.FoundLemmas.{front, front_at, front_none, front_whole, one_more}
use Rattle.decider.proofs.found.byte_of.Goals as goal

pub loop-bit-init : goal.loop-bit-init
loop-bit-init c = record {
  small = omega arith;
  number = λ i first h. sym (front_none i first);
}

pub loop-bit-preserved : goal.loop-bit-preserved
loop-bit-preserved c =
    let n = c.loop-bit.bit-index in
    let byte = c.loop-bit.byte in
    let bit : Bool = get_or c.args.bits.now n false in
    let is : c.from.result ≡ digit bit = c.from.ensures in
    let low : c.from.result < 2 = omega (arith, is, digit-lt bit) in
    let place : n < 8 = omega (arith, c.loop-bit-test.true, c.requires) in
    record {
      small = one_more byte n c.from.result c.loop-bit.invariant.small low;
      number = λ i first h. ap (λ x. 2 * x + c.from.result) (c.loop-bit.invariant.number i first h) ∙ ap (λ d. 2 * front i first n + d) (is ∙ ap digit (h n place)) ∙ sym (front_at i first n);
    }

pub returns : goal.returns
returns c =
    let short : c.loop-bit.bit-index ≡ 8 = omega (arith, c.loop-bit-test.false, c.loop-bit.auto.bit-index-end, c.requires) in
    λ i k h. c.loop-bit.invariant.number i (8 * k) h ∙ ap (front i (8 * k)) short ∙ front_whole i k
