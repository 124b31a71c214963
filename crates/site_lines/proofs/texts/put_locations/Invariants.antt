use Rattle.std.proofs.Common.{◌≡◌, ◌++◌, take}
use Rattle.std.specs.List.{flat_map}
use Rattle.site_lines.specs.Sites as spec
use Rattle.site_lines.proofs.texts.put_locations.Given as goal

abbrev pub invariant-loop-location : goal.invariant-loop-location
invariant-loop-location l = l.text.items ≡ l.fn.text.items ++ flat_map (spec.spaced_location l.program) (take l.location-index l.locations)
