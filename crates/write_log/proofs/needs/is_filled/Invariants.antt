use Rattle.std.proofs.Common.{◌≡◌, drop}
use Rattle.log_laws.specs.Logs as log
use Rattle.write_log.proofs.needs.is_filled.Given as goal

abbrev pub invariant-loop-fill : goal.invariant-loop-fill
invariant-loop-fill g l = log.is_filled l.at l.fills ≡ log.is_filled l.at (drop l.fill-index l.fills)
