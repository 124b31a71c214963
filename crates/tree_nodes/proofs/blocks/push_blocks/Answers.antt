use Rattle.std.proofs.Common.{◌≡◌, ◌+◌, ◌++◌, ◌<◌, ◌∷◌, List, IsTrue, drop, length, subst, arith}
use Rattle.std.specs.List.{list_all}
use Rattle.phrases.proofs.Classes.{and_right}
use Rattle.ir_tree.specs.declared.instructions.Block.{Block}
use Rattle.ir_programs.specs.Flow.{node_count}
use Rattle.ir_programs.specs.Nodes.{nodes_from}
use Rattle.ir_programs.specs.Readable.{is_readable_block}
use Rattle.tree_nodes.proofs.EdgeNodes.{block_more, item_next}
use Rattle.tree_nodes.proofs.blocks.push_blocks.Goals as goal

pub loop-block-preserved : goal.loop-block-preserved
loop-block-preserved c =
    let t = c.args.scope.now.whole.now.tree.now in
    let f = c.args.scope.now.function.now in
    let l = c.loop-block in
    let xs = c.as_slice-blocks.result.now in
    let b = c.block-item.result in
    let rest = drop (l.block-index + 1) xs in
    let all = c.args.nodes.now.items ++ nodes_from t f 0 (node_count f.blocks) f.blocks in
    let within : l.block-index < length xs = omega arith in
    let next : drop l.block-index xs ≡ b ∷ rest = item_next xs l.block-index b within c.block-item.is in
    record {
      made = block_more t f l.first l.edge c.in_ok-first.first c.in_ok-edge-2.edge b rest l.nodes.items c.push_block.new.nodes.items all
          c.in_ok-first.ensures.behind c.in_ok-edge-2.ensures c.in_ok-first.ensures.nodes
          (subst (λ (ys : List Block). l.nodes.items ++ nodes_from t f l.first l.edge ys ≡ all) next l.invariant.made);
      readable = and_right (is_readable_block b) (list_all is_readable_block rest) (subst (λ (ys : List Block). IsTrue (list_all is_readable_block ys)) next l.invariant.readable);
    }
