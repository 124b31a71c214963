use Rattle.std.proofs.Common.{◌≡◌, ◌++◌, length, reverse}
use Rattle.log_laws.specs.Needs as needs
use Rattle.flat_ir.specs.Locations as locations
use Rattle.write_log.proofs.needs.need_life_back.Given as goal

abbrev pub invariant-loop-item : goal.invariant-loop-item
invariant-loop-item g l = (l.at ≡ locations.life_of l.name) × (needs.need_life_back l.name l.left ++ reverse l.calls.items ≡ needs.need_life_back l.name l.trail)

abbrev pub decreases-loop-item : goal.decreases-loop-item
decreases-loop-item g l = length l.left
