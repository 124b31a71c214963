use Rattle.ir_programs.specs.Edges as spec
use Rattle.tree_fits.proofs.Pushing.{flat_more}
use Rattle.tree_fits.proofs.edges.bad_edges_of.Goals as goal

pub loop-block-preserved : goal.loop-block-preserved
loop-block-preserved c =
    flat_more (spec.block_edges_right c.args.function.now) c.as_slice-blocks.result.now c.loop-block.block-index c.block-item.result c.loop-block.tests.items c.push_block.new.tests.items _ c.loop-block-test.true c.block-item.is
    c.in_ok-push_block.ensures c.loop-block.invariant
