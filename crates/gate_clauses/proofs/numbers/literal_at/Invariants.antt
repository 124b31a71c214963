use Rattle.std.proofs.Common.{◌≡◌, ◌<◌, ℕ, List, length}
use Rattle.gates.specs.Clauses.{literal_of}
use Rattle.nodes.specs.Nodes.{bit_at}
use Rattle.nodes.specs.Names.{bits_at}
use Rattle.gate_clauses.specs.Numbers.{signed}
use Rattle.gate_clauses.proofs.numbers.literal_at.Given as goal

abbrev pub invariant-loop-inner : goal.invariant-loop-inner
invariant-loop-inner l = record {
  within : l.at < length l.table;
  same : (names : List ℕ) → literal_of (bits_at l.table names) (bit_at l.table l.fn.k) ≡ signed l.positive (literal_of (bits_at l.table names) (bit_at l.table l.at));
}

abbrev pub decreases-loop-inner : goal.decreases-loop-inner
decreases-loop-inner l = l.at
