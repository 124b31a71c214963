use Rattle.std.proofs.Common.{◌≡◌, None, replicate}
use Rattle.cnf.proofs.unassigned.Given as goal

abbrev pub invariant-loop : goal.invariant-loop
invariant-loop l = l.assigned.items ≡ replicate l.counter None
