use Rattle.std.proofs.Common.{◌≤◌, List, length}
use Rattle.gates.specs.Bits.{Bit}
use Rattle.gate_clauses.specs.Marks.{Marks}
use Rattle.gate_clauses.proofs.inputs.mark_down.Given as goal

abbrev pub invariant-loop-k : goal.invariant-loop-k
invariant-loop-k l = record {
  low : l.k ≤ length l.table;
  marks : (c : List Bit) → Marks l.table c (length l.table) l.initial.marks → Marks l.table c l.k l.marks;
}

abbrev pub decreases-loop-k : goal.decreases-loop-k
decreases-loop-k l = l.k
