use Rattle.nodes.specs.Names.{bits_at}
use Rattle.gate_clauses.proofs.MarkLemmas.{NamesInputs}
use Rattle.gate_clauses.proofs.inputs.inputs_at.Given as goal

abbrev pub invariant-loop-j : goal.invariant-loop-j
invariant-loop-j l = NamesInputs l.table (bits_at l.table l.conjuncts) l.j l.names.items l.bits.items
