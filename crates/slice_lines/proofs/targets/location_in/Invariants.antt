use Rattle.std.proofs.Common.{◌≡◌, drop}
use Rattle.slice_lines.specs.Targets as spec
use Rattle.slice_lines.proofs.targets.location_in.Given as goal

abbrev pub invariant-loop-location : goal.invariant-loop-location
invariant-loop-location l = spec.location_in l.program l.word l.locations ≡ spec.location_in l.program l.word (drop l.location-index l.locations)
