use Rattle.std.proofs.Common.{◌≡◌, drop}
use Rattle.checks.specs.Types as spec
use Rattle.checks.proofs.types.are_indexed.Given as goal

abbrev pub invariant-each : goal.invariant-each
invariant-each l = spec.are_indexed l.regs l.parts ≡ spec.are_indexed l.regs (drop l.part-index l.parts)
