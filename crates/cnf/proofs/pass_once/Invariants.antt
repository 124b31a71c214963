use Rattle.std.proofs.Common.{◌≡◌, ◌<◌, true, false, take, All, count_by, is_none}
use Rattle.cnf.specs.Cnf.{lists_of}
use Rattle.cnf.specs.Literals.{holds_of}
use Rattle.cnf.specs.Passes.{Grows, IsQuiet}
use Rattle.cnf.proofs.pass_once.Given as goal

abbrev pub invariant-loop-clause : goal.invariant-loop-clause
invariant-loop-clause l = record {
  grows : Grows (lists_of l.clauses) l.initial.assigned l.assigned;
  unchanged : l.changed ≡ false → l.assigned ≡ l.initial.assigned;
  quiet : l.changed ≡ false → All (IsQuiet (holds_of l.initial.assigned)) (take l.clause-index (lists_of l.clauses));
  fewer : l.changed ≡ true → count_by is_none l.assigned < count_by is_none l.initial.assigned;
}
