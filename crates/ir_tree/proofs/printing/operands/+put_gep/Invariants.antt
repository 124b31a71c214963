use Rattle.std.proofs.Common.{length}
use Rattle.ir_tree.proofs.printing.operands.+put_gep.Given as goal

abbrev pub decreases-put_gep : goal.decreases-put_gep
decreases-put_gep l = length l.levels.now
