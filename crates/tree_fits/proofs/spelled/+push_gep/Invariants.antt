use Rattle.std.proofs.Common.{length}
use Rattle.tree_fits.proofs.spelled.+push_gep.Given as goal

abbrev pub decreases-push_gep : goal.decreases-push_gep
decreases-push_gep l = length l.levels.now
