use Rattle.std.proofs.Common.{length}
use Rattle.terms.proofs.joins.+spine.Given as goal

abbrev pub decreases-spine : goal.decreases-spine
decreases-spine g l = length l.bytes.now
