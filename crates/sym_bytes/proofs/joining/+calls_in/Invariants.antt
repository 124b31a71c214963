use Rattle.std.proofs.Common.{length}
use Rattle.sym_bytes.proofs.joining.+calls_in.Given as goal

abbrev pub decreases-calls_in : goal.decreases-calls_in
decreases-calls_in g l = length l.bytes.now
