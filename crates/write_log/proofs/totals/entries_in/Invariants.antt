use Rattle.std.proofs.Common.{◌≡◌, ◌++◌, length}
use Rattle.log_laws.specs.Logs as log
use Rattle.write_log.proofs.totals.entries_in.Given as goal

abbrev pub invariant-since : goal.invariant-since
invariant-since g l = l.list ++ log.entries_since l.old l.at l.left ≡ log.entries_since l.old l.at l.trail

abbrev pub decreases-since : goal.decreases-since
decreases-since g l = length l.left
