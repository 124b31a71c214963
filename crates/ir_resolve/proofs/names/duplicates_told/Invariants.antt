use Rattle.std.proofs.Common.{◌≡◌, drop}
use Rattle.ir_resolve.specs.Telling.{told_of}
use Rattle.ir_programs.specs.declared.refusals.Cause.TheVariants.{DuplicateName}
use Rattle.ir_programs.specs.Texts.{places_where}
use Rattle.ir_programs.specs.Uses as spec
use Rattle.ir_resolve.proofs.names.duplicates_told.Given as goal

abbrev pub invariant-each : goal.invariant-each
invariant-each l = told_of DuplicateName l.now (places_where (spec.stands_before l.names) (drop l.name-index l.names)) ≡ told_of DuplicateName l.fn.told (places_where (spec.stands_before l.names) l.names)
