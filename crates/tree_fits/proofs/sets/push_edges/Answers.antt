use Rattle.ir_programs.specs.Fits as spec
use Rattle.ir_programs.specs.Flow.{block_edges}
use Rattle.tree_fits.proofs.Pushing.{mapped_flat_more}
use Rattle.tree_fits.proofs.sets.push_edges.Goals as goal

pub each-preserved : goal.each-preserved
each-preserved c =
    mapped_flat_more (spec.edge_fits c.args.place.now.tree.now c.args.place.now.function.now) (block_edges c.args.place.now.function.now) c.args.blocks.now c.each.block-index c.block-item.result c.each.tests.items
    c.push_block_edges.new.tests.items _ c.each-test.true c.block-item.is c.in_ok-push_block_edges.ensures c.each.invariant
