use Rattle.std.proofs.Common.{ℕ, ◌<◌}
use Rattle.flat_ir.specs.declared.names.RegId.{RegId}
use Rattle.flow.specs.Flow.{IsUndefined}
use Rattle.flow.specs.Paths.{node_of}
use Rattle.flow.proofs.finding.find.Given as goal

abbrev pub invariant-loop-node : goal.invariant-loop-node
invariant-loop-node l = (m : ℕ) (s : RegId) → m < l.node → IsUndefined l.func (node_of m) s → ⊥
