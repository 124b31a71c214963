use Rattle.std.proofs.Common.{◌≡◌, length}
use Rattle.log_laws.specs.Needs as needs
use Rattle.write_log.proofs.needs.is_freed.Given as goal

abbrev pub invariant-loop-item : goal.invariant-loop-item
invariant-loop-item g l = needs.is_freed l.name l.trail ≡ needs.is_freed l.name l.left

abbrev pub decreases-loop-item : goal.decreases-loop-item
decreases-loop-item g l = length l.left
