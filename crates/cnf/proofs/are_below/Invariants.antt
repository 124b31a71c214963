use Rattle.std.proofs.Common.{take}
use Rattle.cnf.specs.Cnf.{IsBelow, lists_of}
use Rattle.cnf.proofs.are_below.Given as goal

abbrev pub invariant-loop-clause : goal.invariant-loop-clause
invariant-loop-clause l = IsBelow l.vars (take l.clause-index (lists_of l.clauses))
