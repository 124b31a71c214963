use Rattle.std.proofs.Common.{◌≡◌, ◌++◌, drop, map}
use Rattle.std.specs.List.{flat_map}
use Rattle.ir_programs.specs.Flow.{block_edges, edges_of}
use Rattle.ir_programs.specs.Nodes.{edge_node}
use Rattle.tree_nodes.proofs.blocks.push_all_edges.Given as goal

abbrev pub invariant-loop-block : goal.invariant-loop-block
invariant-loop-block l =
    let t = l.scope.whole.now.tree.now in
    let f = l.scope.function.now in
    l.nodes.items ++ map (edge_node t f) (flat_map (block_edges f) (drop l.block-index l.blocks)) ≡ l.initial.nodes.items ++ map (edge_node t f) (edges_of f)
