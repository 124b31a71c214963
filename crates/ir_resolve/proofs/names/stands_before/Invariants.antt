use Rattle.std.proofs.Common.{◌≡◌, drop}
use Rattle.ir_programs.specs.Uses as spec
use Rattle.ir_resolve.proofs.names.stands_before.Given as goal

abbrev pub invariant-each : goal.invariant-each
invariant-each l = spec.stands_before l.names l.name ≡ spec.stands_before (drop l.other-index l.names) l.name
