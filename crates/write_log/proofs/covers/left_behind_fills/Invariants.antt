use Rattle.std.proofs.Common.{◌≡◌, drop}
use Rattle.log_laws.specs.Needs as needs
use Rattle.write_log.proofs.covers.left_behind_fills.Given as goal

abbrev pub invariant-loop-fill : goal.invariant-loop-fill
invariant-loop-fill g l = needs.left_behind_all l.name (needs.recovered_at (drop l.fill-index l.fills)) l.left ≡ needs.left_behind_all l.name (needs.recovered_at l.fills) l.fn.wanted
