use Rattle.std.proofs.Common.{◌≡◌, ◌++◌, drop}
use Rattle.ir_programs.specs.Locals as spec
use Rattle.ir_programs.proofs.registers.register_types.Given as goal

abbrev pub invariant-each : goal.invariant-each
invariant-each l = l.types ++ spec.types_among (drop l.local-index l.locals) ≡ spec.types_among l.locals
