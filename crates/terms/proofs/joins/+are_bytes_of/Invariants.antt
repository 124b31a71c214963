use Rattle.std.proofs.Common.{length}
use Rattle.terms.proofs.joins.+are_bytes_of.Given as goal

abbrev pub decreases-are_bytes_of : goal.decreases-are_bytes_of
decreases-are_bytes_of g l = length l.bytes.now
