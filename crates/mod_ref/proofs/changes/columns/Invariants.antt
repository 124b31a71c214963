use Rattle.std.proofs.Common.{◌≡◌, length}
use Rattle.mod_ref.specs.Callers.{AreColumns}
use Rattle.mod_ref.proofs.changes.columns.Given as goal

abbrev pub invariant-each : goal.invariant-each
invariant-each l = (length l.columns.items ≡ l.i) × AreColumns l.program l.locations l.columns.items
