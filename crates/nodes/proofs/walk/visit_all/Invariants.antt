use Rattle.std.proofs.Common.{◌≡◌, take}
use Rattle.gates.specs.Clauses.{gates_of, met_after}
use Rattle.std.specs.Prelude.{flat_map}
use Rattle.nodes.specs.Names.{bits_at, IsNaming}
use Rattle.nodes.proofs.walk.visit_all.Given as goal

abbrev pub invariant-loop-k : goal.invariant-loop-k
invariant-loop-k l = IsNaming l.table l.done l.names.items × (bits_at l.table l.names.items ≡ met_after (bits_at l.table l.fn.names.items) (flat_map gates_of (bits_at l.table (take l.k-index l.conjuncts))))
