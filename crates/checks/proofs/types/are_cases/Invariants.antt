use Rattle.std.proofs.Common.{◌≡◌, drop}
use Rattle.checks.specs.Types as spec
use Rattle.checks.proofs.types.are_cases.Given as goal

abbrev pub invariant-each : goal.invariant-each
invariant-each l = spec.are_cases l.kind l.cases ≡ spec.are_cases l.kind (drop l.case-index l.cases)
