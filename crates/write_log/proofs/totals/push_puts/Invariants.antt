use Rattle.std.proofs.Common.{◌≡◌, ◌++◌, drop, reverse}
use Rattle.log_laws.specs.Logs as log
use Rattle.write_log.proofs.totals.push_puts.Given as goal

abbrev pub invariant-loop-entry : goal.invariant-loop-entry
invariant-loop-entry g l = log.puts_in (drop l.entry-index l.entries) ++ reverse l.list.items ≡ log.puts_in l.entries ++ reverse l.fn.list.items
