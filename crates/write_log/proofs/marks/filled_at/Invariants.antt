use Rattle.std.proofs.Common.{◌≡◌, ◌++◌, length}
use Rattle.log_laws.specs.Logs as log
use Rattle.write_log.proofs.marks.filled_at.Given as goal

abbrev pub invariant-loop-item : goal.invariant-loop-item
invariant-loop-item g l = (l.trail ≡ l.above ++ l.left) × (log.fill l.call l.at l.entries l.trail ≡ l.above ++ log.fill l.call l.at l.entries l.left)

abbrev pub decreases-loop-item : goal.decreases-loop-item
decreases-loop-item g l = length l.left
