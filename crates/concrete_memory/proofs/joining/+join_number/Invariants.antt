use Rattle.std.proofs.Common.{length}
use Rattle.concrete_memory.proofs.joining.+join_number.Given as goal

abbrev pub decreases-join_number : goal.decreases-join_number
decreases-join_number l = length l.bytes.now
