use Rattle.std.proofs.Common.{◌≡◌, length}
use Rattle.flat_ir.specs.Locations as locations
use Rattle.log_laws.specs.Logs as log
use Rattle.write_log.specs.Walks as walks
use Rattle.write_log.proofs.lives.life_of_made.Given as goal

abbrev pub invariant-loop-item : goal.invariant-loop-item
invariant-loop-item g l = (l.at ≡ locations.life_of l.name) × (log.life_among l.name (log.seen_at (locations.life_of l.name) l.trail) ≡ walks.life_from l.name l.size (log.seen_at (locations.life_of l.name) l.left))

abbrev pub decreases-loop-item : goal.decreases-loop-item
decreases-loop-item g l = length l.left
