use Rattle.std.proofs.Common.{◌≡◌, drop}
use Rattle.log_laws.specs.Logs as log
use Rattle.std.specs.List.{list_any}
use Rattle.write_log.proofs.lives.makes.Given as goal

abbrev pub invariant-loop-entry : goal.invariant-loop-entry
invariant-loop-entry g l = list_any (log.is_alloc_of l.name) l.entries ≡ list_any (log.is_alloc_of l.name) (drop l.entry-index l.entries)
