use Rattle.std.proofs.Common.{◌≡◌, drop}
use Rattle.log_laws.specs.Logs as log
use Rattle.write_log.proofs.lives.newest_size.Given as goal

abbrev pub invariant-loop-entry : goal.invariant-loop-entry
invariant-loop-entry g l = log.newest_size l.name l.entries ≡ log.newest_size l.name (drop l.entry-index l.entries)
