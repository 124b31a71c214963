use Rattle.std.proofs.Common.{◌≡◌, ◌++◌, drop}
use Rattle.mod_ref.specs.Mods as spec
use Rattle.mod_ref.proofs.changes.chosen.Given as goal

abbrev pub invariant-each : goal.invariant-each
invariant-each l = l.list ++ spec.chosen l.function (drop l.i l.locations) (drop l.i l.columns) ≡ spec.chosen l.function l.locations l.columns
