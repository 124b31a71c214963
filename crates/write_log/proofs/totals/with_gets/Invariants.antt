use Rattle.std.proofs.Common.{◌≡◌, ◌+◌, ◌-◌, ◌^◌, ◌≤◌, drop, min}
use Rattle.log_laws.specs.Logs as log
use Rattle.write_log.proofs.totals.with_gets.Given as goal

abbrev pub invariant-loop-entry : goal.invariant-loop-entry
invariant-loop-entry g l = (l.total ≤ 2 ^ 64 - 1) × (min (l.total + log.gets_in (drop l.entry-index l.entries)) (2 ^ 64 - 1) ≡ min (l.count + log.gets_in l.entries) (2 ^ 64 - 1))
