use Rattle.std.proofs.Common.{◌≡◌, ◌++◌, ℕ, List, take, flat_map}
use Rattle.cnf.specs.Cnf.{lists_of}
use Rattle.gates.specs.Clauses.{gate_clauses}
use Rattle.nodes.specs.Names.{bits_at}
use Rattle.gate_clauses.specs.Numbers.{AreNumbers}
use Rattle.gate_clauses.proofs.clauses.push_gates.Given as goal

abbrev pub invariant-loop-k : goal.invariant-loop-k
invariant-loop-k l =
    (names : List ℕ) → AreNumbers l.table names l.numbers → lists_of l.clauses.items ≡ lists_of l.initial.clauses.items ++ flat_map (gate_clauses (bits_at l.table names)) (bits_at l.table (take l.k-index l.gates))
