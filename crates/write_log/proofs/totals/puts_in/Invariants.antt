use Rattle.std.proofs.Common.{◌≡◌, ◌++◌, length, reverse}
use Rattle.log_laws.specs.Logs as log
use Rattle.write_log.proofs.totals.puts_in.Given as goal

abbrev pub invariant-loop-item : goal.invariant-loop-item
invariant-loop-item g l = log.output l.left ++ reverse l.list.items ≡ log.output l.trail

abbrev pub decreases-loop-item : goal.decreases-loop-item
decreases-loop-item g l = length l.left
