use Rattle.std.proofs.Common.{◌≡◌, drop}
use Rattle.ir_resolve.specs.Telling.{told_of}
use Rattle.ir_programs.specs.declared.refusals.Cause.TheVariants.{DuplicateName}
use Rattle.std.specs.List.{flat_map}
use Rattle.ir_programs.specs.Causes as causes
use Rattle.ir_resolve.proofs.cases.all_cases_told.Given as goal

abbrev pub invariant-each : goal.invariant-each
invariant-each l = told_of DuplicateName l.now (flat_map causes.duplicate_cases (drop l.function-index l.functions)) ≡ told_of DuplicateName l.fn.told (flat_map causes.duplicate_cases l.functions)
