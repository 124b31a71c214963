use Rattle.std.proofs.Common.{◌<◌, ℕ, List, [], length, arith, below_more, subst, sym}
use Rattle.std.specs.Prelude.{slice_index_or}
use Rattle.std.specs.List.{Contains}
use Rattle.control_closure.specs.WalkLaws.{from_node}
use Rattle.control_closure.proofs.WalkSets.{in_graph}
use Rattle.control_closure.proofs.graph.Graph.is_graph.Goals as goal

pub returns-then-not-are_below : goal.returns-then-not-are_below
returns-then-not-are_below c = λ graph. c.if-not-are_below.ensures (λ k there.
    let h = in_graph c.args.self.now.succ c.loop-node.node c.successors.result.now graph c.successors.ensures k there in omega (arith, h, c.len.ensures))

pub loop-node-preserved : goal.loop-node-preserved
loop-node-preserved c =
    below_more (λ (i : ℕ). (m : ℕ) → Contains (slice_index_or c.args.self.now.succ i []) m → m < length c.args.self.now.succ) c.loop-node.node c.loop-node.invariant
    (λ m there.
    let h = c.if-not-are_below.ensures m (subst (λ (row : List ℕ). Contains row m) (sym c.successors.ensures) there) in omega (arith, h, c.len.ensures))

pub returns : goal.returns
returns c = λ n m edge. c.loop-node.invariant n (omega (arith, from_node c.args.self.now.succ n m edge)) m edge
