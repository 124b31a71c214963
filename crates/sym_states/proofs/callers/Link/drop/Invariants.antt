use Rattle.std.proofs.Common.{length}
use Rattle.sym_states.specs.Shown.{frames_of}
use Rattle.sym_states.proofs.callers.Link.drop.Given as goal

abbrev pub decreases-loop-self : goal.decreases-loop-self
decreases-loop-self g l = length (frames_of l.self)
