use Rattle.std.proofs.Common.{◌≡◌, take}
use Rattle.slicer.specs.Links as spec
use Rattle.slicer.proofs.linking.all_to.Given as goal

abbrev pub invariant-loop-from : goal.invariant-loop-from
invariant-loop-from l = l.links.items ≡ spec.all_to l.to (take l.from-index l.marks)
