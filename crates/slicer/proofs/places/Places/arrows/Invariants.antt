use Rattle.std.proofs.Common.{◌≡◌, take}
use Rattle.std.specs.List.{flat_map}
use Rattle.slicer.specs.Places.{arrow_of}
use Rattle.slicer.proofs.places.Places.arrows.Given as goal

abbrev pub invariant-loop-link : goal.invariant-loop-link
invariant-loop-link l = l.arrows.items ≡ flat_map (arrow_of l.self.program.now l.self.starts.items) (take l.link-index l.links)
