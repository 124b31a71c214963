use Rattle.std.proofs.Common.{◌≡◌, drop, map}
use Rattle.ir_programs.specs.Constants as spec
use Rattle.tree_constants.specs.Judging.{judged}
use Rattle.tree_constants.proofs.constants.are_all.Given as goal

abbrev pub invariant-each : goal.invariant-each
invariant-each l = spec.are_all l.types l.kind (map (judged l.types) l.constants) ≡ spec.are_all l.types l.kind (map (judged l.types) (drop l.constant-index l.constants))
