use Rattle.std.proofs.Common.{◌≡◌, ◌++◌, drop}
use Rattle.ir_programs.specs.Locals as spec
use Rattle.ir_programs.proofs.registers.register_names.Given as goal

abbrev pub invariant-each : goal.invariant-each
invariant-each l = l.names ++ spec.names_among (drop l.local-index l.locals) ≡ spec.names_among l.locals
