use Rattle.gate_clauses.proofs.NumberLemmas.{NumbersBelow}
use Rattle.gate_clauses.proofs.numbers.numbers_of.Given as goal

abbrev pub invariant-loop-i : goal.invariant-loop-i
invariant-loop-i l = NumbersBelow l.table l.names l.i l.numbers.items
