use Rattle.gate_clauses.specs.Marks.{ArePlaces}
use Rattle.gate_clauses.proofs.inputs.input_places.Given as goal

abbrev pub invariant-loop-k : goal.invariant-loop-k
invariant-loop-k l = ArePlaces l.table l.marks l.k l.places.items
