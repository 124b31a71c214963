use Rattle.std.proofs.Common.{◌≡◌, drop}
use Rattle.ir_programs.specs.Steps.{absences_left}
use Rattle.ir_programs.proofs.absences.absences_told.Given as goal

abbrev pub invariant-each : goal.invariant-each
invariant-each l = absences_left l.cause l.now l.texts (drop l.name-index l.names) ≡ absences_left l.cause l.fn.told l.texts l.names
