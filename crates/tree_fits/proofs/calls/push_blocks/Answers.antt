use Rattle.ir_programs.specs.Fits as spec
use Rattle.tree_fits.proofs.Pushing.{flat_more}
use Rattle.tree_fits.proofs.calls.push_blocks.Goals as goal

pub each-preserved : goal.each-preserved
each-preserved c =
    flat_more (spec.block_fits c.args.place.now.tree.now c.args.place.now.function.now) c.args.blocks.now c.each.block-index c.block-item.result c.each.tests.items c.push_block.new.tests.items _ c.each-test.true c.block-item.is
    c.in_ok-push_block.ensures c.each.invariant
