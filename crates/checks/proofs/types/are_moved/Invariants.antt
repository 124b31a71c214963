use Rattle.std.proofs.Common.{◌≡◌, drop}
use Rattle.checks.specs.Types as spec
use Rattle.checks.proofs.types.are_moved.Given as goal

abbrev pub invariant-each : goal.invariant-each
invariant-each l = spec.are_moved l.regs l.moved ≡ spec.are_moved l.regs (drop l.set-index l.moved)
