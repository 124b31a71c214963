use Rattle.std.proofs.Common.{ℕ, ◌≡◌, ◌<◌, [], length}
use Rattle.std.specs.Prelude.{slice_index_or}
use Rattle.mod_ref.specs.Callers.{func}
use Rattle.mod_ref.specs.Mods.{AreChanges}
use Rattle.mod_ref.proofs.changes.mods.Given as goal

abbrev pub invariant-each : goal.invariant-each
invariant-each l = (length l.lists.items ≡ l.f) × ((k : ℕ) → k < l.f → AreChanges l.fn.program (func k) (slice_index_or l.lists.items k []))
