use Rattle.std.proofs.Common.{◌≡◌, ◌++◌, drop}
use Rattle.points_to.specs.Asked as spec
use Rattle.points_to.proofs.asking.asked_by_funcs.Given as goal

abbrev pub invariant-loop-f : goal.invariant-loop-f
invariant-loop-f l = l.list ++ spec.asked_by_funcs l.program l.f (drop l.f l.program.funcs) ≡ spec.asked_by_funcs l.program 0 l.program.funcs
