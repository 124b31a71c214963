use Rattle.std.proofs.Common.{◌≡◌, drop}
use Rattle.checks.specs.Types as spec
use Rattle.checks.proofs.types.have.Given as goal

abbrev pub invariant-each : goal.invariant-each
invariant-each l = spec.have l.regs l.operands l.kinds ≡ spec.have l.regs (drop l.operand-index l.operands) l.rest
