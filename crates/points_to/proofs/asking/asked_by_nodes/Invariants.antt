use Rattle.std.proofs.Common.{◌≡◌, ◌++◌, drop}
use Rattle.points_to.specs.Asked as spec
use Rattle.points_to.proofs.asking.asked_by_nodes.Given as goal

abbrev pub invariant-loop-n : goal.invariant-loop-n
invariant-loop-n l = l.list ++ spec.asked_from l.program l.func l.n (drop l.n l.nodes) ≡ spec.asked_from l.program l.func 0 l.nodes
