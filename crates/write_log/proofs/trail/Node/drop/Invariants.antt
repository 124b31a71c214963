use Rattle.std.proofs.Common.{length}
use Rattle.write_log.specs.Links.{log_of}
use Rattle.write_log.proofs.trail.Node.drop.Given as goal

abbrev pub decreases-loop-self : goal.decreases-loop-self
decreases-loop-self g l = length (log_of l.self)
