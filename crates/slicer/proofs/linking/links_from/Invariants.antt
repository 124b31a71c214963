use Rattle.std.proofs.Common.{◌≡◌, ◌++◌, drop}
use Rattle.slicer.specs.Links as spec
use Rattle.slicer.proofs.linking.links_from.Given as goal

abbrev pub invariant-loop-n : goal.invariant-loop-n
invariant-loop-n l = l.links ++ spec.links_from l.program l.sets l.func l.n (drop l.n l.nodes) ≡ spec.links_from l.program l.sets l.func 0 l.nodes
