use Rattle.std.proofs.Common.{◌≡◌, length}
use Rattle.log_laws.specs.Logs as log
use Rattle.write_log.proofs.marks.cut_at.Given as goal

abbrev pub invariant-loop-item : goal.invariant-loop-item
invariant-loop-item g l = log.cut l.call l.trail ≡ log.cut l.call l.left

abbrev pub decreases-loop-item : goal.decreases-loop-item
decreases-loop-item g l = length l.left
