use Rattle.std.proofs.Common.{length}
use Rattle.sym_bytes.proofs.joining.+are_pending.Given as goal

abbrev pub decreases-are_pending : goal.decreases-are_pending
decreases-are_pending g l = length l.bytes.now
