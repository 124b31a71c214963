use Rattle.std.proofs.Common.{length}
use Rattle.write_log.proofs.covers.+is_one_of.Given as goal

abbrev pub decreases-is_one_of : goal.decreases-is_one_of
decreases-is_one_of g l = length l.bytes.now
