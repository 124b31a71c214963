use Rattle.std.proofs.Common.{ℕ, ◌≡◌, ◌<◌, length}
use Rattle.least.specs.Sets.{has}
use Rattle.mod_ref.specs.Callers.{func, ChangesItself, Tells}
use Rattle.mod_ref.proofs.owned.own.Given as goal

abbrev pub invariant-each : goal.invariant-each
invariant-each l = (length l.own.items ≡ l.f) × ((k : ℕ) → k < l.f → Tells (has l.own.items k) (ChangesItself l.program l.location (func k)))
