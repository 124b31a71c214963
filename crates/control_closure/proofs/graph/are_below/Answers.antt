use Rattle.std.proofs.Common.{◌<◌, ℕ, arith}
use Rattle.std.proofs.lemmas.List.Elements.{Contains-get_or}
use Rattle.least.proofs.Bits.{each_contained}
use Rattle.control_closure.proofs.graph.are_below.Goals as goal

pub returns-then-number-bound : goal.returns-then-number-bound
returns-then-number-bound c = λ all.
    let h = all _ (Contains-get_or c.args.numbers.now c.loop-number.number-index 0 c.loop-number-test.true) in omega (arith, h, c.if-number-bound.true)

pub returns : goal.returns
returns c = λ k there. each_contained (λ (x : ℕ). x < c.args.bound) c.args.numbers.now (λ i h. c.loop-number.invariant i (omega arith)) k there
