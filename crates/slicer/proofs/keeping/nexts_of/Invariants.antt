use Rattle.std.proofs.Common.{◌≡◌, take}
use Rattle.slicer.specs.Keeping as spec
use Rattle.slicer.proofs.keeping.nexts_of.Given as goal

abbrev pub invariant-loop-node : goal.invariant-loop-node
invariant-loop-node l = l.nexts.items ≡ spec.nexts_of l.mets l.end (take l.node-index l.row)
