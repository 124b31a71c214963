use Rattle.std.proofs.Common.{◌≡◌, ◌++◌, drop, length}
use Rattle.log_laws.specs.Needs as needs
use Rattle.write_log.proofs.covers.uncovered_by.Given as goal

abbrev pub invariant-loop-k : goal.invariant-loop-k
invariant-loop-k g l = l.list ++ needs.uncovered_by (length l.bytes) l.at (drop l.k-index l.wanted) ≡ needs.uncovered_by (length l.bytes) l.at l.wanted
