use Rattle.std.proofs.Common.{◌+◌, ◌*◌, length, not, count_by}
use Rattle.gates.specs.Clauses.{gates_of, met_after}
use Rattle.nodes.specs.Nodes.{bit_at}
use Rattle.nodes.specs.Names.{bits_at}
use Rattle.nodes.proofs.WalkLemmas.{StandsAt}
use Rattle.nodes.proofs.walk.visit.Given as goal

abbrev pub invariant-loop-operand : goal.invariant-loop-operand
invariant-loop-operand l = StandsAt l.table l.done l.names.items l.waiting.items l.k (met_after (bits_at l.fn.table l.fn.names.items) (gates_of (bit_at l.fn.table l.fn.first)))

abbrev pub decreases-loop-operand : goal.decreases-loop-operand
decreases-loop-operand l = count_by not l.done * (length l.table + 1) + l.k
