use Rattle.std.proofs.Common.{◌<◌, ℕ, [], length}
use Rattle.std.specs.Prelude.{slice_index_or}
use Rattle.std.specs.List.{Contains}
use Rattle.control_closure.proofs.graph.Graph.is_graph.Given as goal

abbrev pub invariant-loop-node : goal.invariant-loop-node
invariant-loop-node l = (i : ℕ) → i < l.node → (m : ℕ) → Contains (slice_index_or l.self.succ i []) m → m < length l.self.succ
