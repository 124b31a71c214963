use Rattle.std.proofs.Common.{◌≡◌, ◌++◌, length, reverse}
use Rattle.log_laws.specs.Needs as needs
use Rattle.write_log.proofs.needs.need_all.Given as goal

abbrev pub invariant-loop-item : goal.invariant-loop-item
invariant-loop-item g l = needs.need_all l.at l.left ++ reverse l.calls.items ≡ needs.need_all l.at l.trail

abbrev pub decreases-loop-item : goal.decreases-loop-item
decreases-loop-item g l = length l.left
