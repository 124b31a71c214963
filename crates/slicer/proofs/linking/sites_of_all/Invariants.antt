use Rattle.std.proofs.Common.{◌≡◌, take}
use Rattle.std.specs.List.{flat_map}
use Rattle.slicer.specs.Links as spec
use Rattle.slicer.proofs.linking.sites_of_all.Given as goal

abbrev pub invariant-loop-pointer : goal.invariant-loop-pointer
invariant-loop-pointer l = l.all ≡ flat_map (spec.sites_of l.sets l.func) (take l.pointer-index l.pointers)
