use Rattle.std.proofs.Common.{length}
use Rattle.state_sides.specs.Paths.{events_of}
use Rattle.state_sides.proofs.path.Link.drop.Given as goal

abbrev pub decreases-loop-self : goal.decreases-loop-self
decreases-loop-self g l = length (events_of l.self)
