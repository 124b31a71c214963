-- What contracts see of a path: its events, the oldest first.
use Rattle.std.specs.Prelude.{List, [], ◌∷◌, ◌++◌}
use Rattle.leaves.specs.Events.{Event}
use Rattle.state_sides.specs.declared.path.Link.{Link}
use Rattle.state_sides.specs.declared.path.Link.TheVariants.{First, Behind}

abbrev pub events_of : {H : Type 0} → Link H → List Event
events_of First = []
events_of (Behind older event) = older ++ event ∷ []
