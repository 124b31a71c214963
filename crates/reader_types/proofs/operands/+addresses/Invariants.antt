use Rattle.std.proofs.Common.{◌+◌, ◌*◌}
use Rattle.reader_types.proofs.operands.+addresses.Given as goal

abbrev pub decreases-gep_level : goal.decreases-gep_level
decreases-gep_level l = 2 * l.inner + 1

abbrev pub decreases-gep_base : goal.decreases-gep_base
decreases-gep_base l = 2 * l.levels
