use Rattle.std.proofs.Common.{◌≡◌, drop, map}
use Rattle.ir_programs.specs.Constants as spec
use Rattle.tree_constants.specs.Judging.{judged}
use Rattle.tree_constants.proofs.constants.are_each.Given as goal

abbrev pub invariant-places : goal.invariant-places
invariant-places l = spec.are_each l.types l.fields (map (judged l.types) l.constants) ≡ spec.are_each l.types (drop l.place l.fields) (map (judged l.types) (drop l.place l.constants))
