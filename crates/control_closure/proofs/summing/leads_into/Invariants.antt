use Rattle.std.proofs.Common.{◌<◌, ◌≡◌, ℕ, true, get_or}
use Rattle.least.specs.Sets.{has}
use Rattle.control_closure.proofs.summing.leads_into.Given as goal

abbrev pub invariant-loop-number : goal.invariant-loop-number
invariant-loop-number l = (i : ℕ) → i < l.number-index → has l.set (get_or l.numbers i 0) ≡ true → ⊥
