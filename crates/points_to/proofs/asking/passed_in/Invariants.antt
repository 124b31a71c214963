use Rattle.std.proofs.Common.{◌≡◌, ◌++◌, drop}
use Rattle.points_to.specs.Asked as spec
use Rattle.points_to.proofs.asking.passed_in.Given as goal

abbrev pub invariant-loop-k : goal.invariant-loop-k
invariant-loop-k l = l.list.items ++ spec.passed_in l.func l.callee l.k (drop l.k l.args) ≡ spec.passed_in l.func l.callee 0 l.args
