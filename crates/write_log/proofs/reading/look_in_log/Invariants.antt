use Rattle.std.proofs.Common.{◌≡◌, length}
use Rattle.flat_ir.specs.Locations.{cells_of}
use Rattle.log_laws.specs.Logs.{seen_at}
use Rattle.log_laws.specs.Reading as reading
use Rattle.log_laws.specs.Reading.{Chain}
use Rattle.write_log.proofs.reading.look_in_log.Given as goal

abbrev pub invariant-loop-item : goal.invariant-loop-item
invariant-loop-item g l = (l.cells ≡ cells_of l.name) × ((last : Chain) → reading.or_else l.fn.chain (reading.chain_through l.known l.name l.at (seen_at (cells_of l.name) l.trail) last) ≡ reading.or_else l.chain (reading.chain_through l.known l.name l.at (seen_at (cells_of l.name) l.left) last))

abbrev pub decreases-loop-item : goal.decreases-loop-item
decreases-loop-item g l = length l.left
