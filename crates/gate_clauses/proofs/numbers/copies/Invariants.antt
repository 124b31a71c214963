use Rattle.std.proofs.Common.{◌≡◌, replicate}
use Rattle.gate_clauses.proofs.numbers.copies.Given as goal

abbrev pub invariant-loop : goal.invariant-loop
invariant-loop l = l.numbers.items ≡ replicate l.counter l.number
