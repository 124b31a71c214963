use Rattle.std.proofs.Common.{◌≡◌, ◌++◌, drop}
use Rattle.slicer.specs.Keeping as spec
use Rattle.slicer.proofs.keeping.nexts_of_nodes.Given as goal

abbrev pub invariant-loop-n : goal.invariant-loop-n
invariant-loop-n l =
    l.nexts ++ spec.nexts_from l.places.program.now l.places.starts.items l.set l.func l.mets l.end l.n (drop l.n l.nodes)
    ≡ spec.nexts_from l.places.program.now l.places.starts.items l.set l.func l.mets l.end 0 l.nodes
