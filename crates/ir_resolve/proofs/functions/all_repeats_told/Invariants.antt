use Rattle.std.proofs.Common.{◌≡◌, drop}
use Rattle.ir_resolve.specs.Telling.{told_of}
use Rattle.ir_programs.specs.declared.refusals.Cause.TheVariants.{DuplicateName}
use Rattle.std.specs.List.{flat_map}
use Rattle.ir_programs.specs.Locals as locals
use Rattle.ir_resolve.proofs.functions.all_repeats_told.Given as goal

abbrev pub invariant-each : goal.invariant-each
invariant-each l = told_of DuplicateName l.now (flat_map locals.repeated_locals (drop l.function-index l.functions)) ≡ told_of DuplicateName l.fn.told (flat_map locals.repeated_locals l.functions)
