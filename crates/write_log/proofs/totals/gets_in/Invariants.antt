use Rattle.std.proofs.Common.{◌≡◌, ◌+◌, ◌-◌, ◌^◌, ◌≤◌, length, min}
use Rattle.log_laws.specs.Logs as log
use Rattle.write_log.proofs.totals.gets_in.Given as goal

abbrev pub invariant-loop-item : goal.invariant-loop-item
invariant-loop-item g l = (l.total ≤ 2 ^ 64 - 1) × (min (l.total + log.position l.left) (2 ^ 64 - 1) ≡ min (log.position l.trail) (2 ^ 64 - 1))

abbrev pub decreases-loop-item : goal.decreases-loop-item
decreases-loop-item g l = length l.left
