use Rattle.std.proofs.Common.{◌≡◌, drop}
use Rattle.log_laws.specs.Needs as needs
use Rattle.write_log.proofs.covers.left_behind_all.Given as goal

abbrev pub invariant-loop-entry : goal.invariant-loop-entry
invariant-loop-entry g l = needs.left_behind_all l.name (drop l.entry-index l.entries) l.left ≡ needs.left_behind_all l.name l.entries l.fn.wanted
