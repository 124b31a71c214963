use Rattle.std.proofs.Common.{ℕ, ◌<◌}
use Rattle.mod_ref.specs.Changes.{ChangesAt}
use Rattle.mod_ref.proofs.owned.changes_itself.Given as goal

abbrev pub invariant-each : goal.invariant-each
invariant-each l = (i : ℕ) → i < l.n → ChangesAt l.program l.from (record { 0 = i }) l.location → ⊥
