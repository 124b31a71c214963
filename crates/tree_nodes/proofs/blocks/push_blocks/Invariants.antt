use Rattle.std.proofs.Common.{◌≡◌, ◌++◌, drop, IsTrue}
use Rattle.std.specs.List.{list_all}
use Rattle.ir_programs.specs.Flow.{node_count}
use Rattle.ir_programs.specs.Nodes.{nodes_from}
use Rattle.ir_programs.specs.Readable.{is_readable_block}
use Rattle.tree_nodes.proofs.blocks.push_blocks.Given as goal

abbrev pub invariant-loop-block : goal.invariant-loop-block
invariant-loop-block l =
    let t = l.scope.whole.now.tree.now in
    let f = l.scope.function.now in
    record {
      made : l.nodes.items ++ nodes_from t f l.first l.edge (drop l.block-index l.blocks) ≡ l.initial.nodes.items ++ nodes_from t f 0 (node_count f.blocks) f.blocks;
      readable : IsTrue (list_all is_readable_block (drop l.block-index l.blocks));
    }
