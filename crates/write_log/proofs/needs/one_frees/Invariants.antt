use Rattle.std.proofs.Common.{◌≡◌, drop}
use Rattle.log_laws.specs.Logs as log
use Rattle.std.specs.List.{list_any}
use Rattle.log_laws.specs.Needs as needs
use Rattle.write_log.proofs.needs.one_frees.Given as goal

abbrev pub invariant-loop-fill : goal.invariant-loop-fill
invariant-loop-fill g l = list_any (log.is_free_of l.name) (needs.recovered_at l.fills) ≡ list_any (log.is_free_of l.name) (needs.recovered_at (drop l.fill-index l.fills))
