use Rattle.std.proofs.Common.{◌≡◌, ℕ, true, arith}
use Rattle.std.proofs.lemmas.List.Elements.{Contains-get_or}
use Rattle.least.specs.Sets.{has}
use Rattle.least.proofs.Bits.{each_contained}
use Rattle.control_closure.proofs.summing.leads_into.Goals as goal

pub bounds-set-number : goal.bounds-set-number
bounds-set-number c = c.requires _ (Contains-get_or c.args.numbers.now c.loop-number.number-index 0 c.loop-number-test.true)

pub returns : goal.returns
returns c = λ w. each_contained (λ (x : ℕ). has c.args.set.now x ≡ true → ⊥) c.args.numbers.now
    (λ i h. c.loop-number.invariant i (omega arith)) w.0 w.1 w.2
