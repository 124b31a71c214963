use Rattle.std.proofs.Common.{◌≡◌, take}
use Rattle.slicer.specs.Links as spec
use Rattle.slicer.proofs.linking.all_from.Given as goal

abbrev pub invariant-loop-to : goal.invariant-loop-to
invariant-loop-to l = l.links.items ≡ spec.all_from l.from (take l.to-index l.marks)
