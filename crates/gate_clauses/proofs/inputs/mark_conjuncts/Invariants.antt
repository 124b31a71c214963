use Rattle.std.proofs.Common.{length, take}
use Rattle.nodes.specs.Names.{bits_at}
use Rattle.gate_clauses.specs.Marks.{Marks}
use Rattle.gate_clauses.proofs.inputs.mark_conjuncts.Given as goal

abbrev pub invariant-loop-k : goal.invariant-loop-k
invariant-loop-k l = Marks l.table (bits_at l.table (take l.k-index l.conjuncts)) (length l.table) l.marks.items
