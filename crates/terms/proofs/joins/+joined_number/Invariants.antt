use Rattle.std.proofs.Common.{length}
use Rattle.terms.proofs.joins.+joined_number.Given as goal

abbrev pub decreases-joined_number : goal.decreases-joined_number
decreases-joined_number g l = length l.bytes.now
