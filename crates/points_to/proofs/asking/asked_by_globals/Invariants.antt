use Rattle.std.proofs.Common.{◌≡◌, ◌++◌, drop}
use Rattle.points_to.specs.Asked as spec
use Rattle.points_to.proofs.asking.asked_by_globals.Given as goal

abbrev pub invariant-loop-g : goal.invariant-loop-g
invariant-loop-g l = l.list ++ spec.asked_by_globals l.g (drop l.g l.globals) ≡ spec.asked_by_globals 0 l.globals
