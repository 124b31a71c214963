use Rattle.ir_tree.proofs.Lines.{blocks_more}
use Rattle.ir_tree.proofs.printing.lines.put_blocks.Goals as goal

pub loop-block-preserved : goal.loop-block-preserved
loop-block-preserved c = blocks_more c.args.blocks.now c.loop-block.block-index c.block-item.result c.loop-block-test.true c.block-item.is c.args.page.now.text c.loop-block.page.text _ c.loop-block.invariant c.in_ok-put_block.ensures
