use Rattle.std.proofs.Common.{count_by, is_none}
use Rattle.cnf.specs.Cnf.{lists_of}
use Rattle.cnf.specs.Passes.{Grows}
use Rattle.search.proofs.propagate.Given as goal

abbrev pub invariant-loop : goal.invariant-loop
invariant-loop l = Grows (lists_of l.clauses) l.initial.assigned l.assigned

abbrev pub decreases-loop : goal.decreases-loop
decreases-loop l = count_by is_none l.assigned
