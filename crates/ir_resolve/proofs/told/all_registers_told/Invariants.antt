use Rattle.std.proofs.Common.{◌≡◌, drop}
use Rattle.ir_resolve.specs.Telling.{told_of}
use Rattle.ir_programs.specs.declared.refusals.Cause.TheVariants.{UnknownName}
use Rattle.std.specs.List.{flat_map}
use Rattle.ir_programs.specs.Causes as causes
use Rattle.ir_resolve.proofs.told.all_registers_told.Given as goal

abbrev pub invariant-each : goal.invariant-each
invariant-each l = told_of UnknownName l.now (flat_map causes.unknown_registers (drop l.function-index l.functions)) ≡ told_of UnknownName l.fn.told (flat_map causes.unknown_registers l.functions)
