use Rattle.ir_tree.proofs.Spelled.{joined_more}
use Rattle.ir_tree.proofs.printing.spelled.put_joined.Goals as goal

pub loop-item-preserved : goal.loop-item-preserved
loop-item-preserved g c =
    joined_more g.T.Spelled.tokens c.args.items.now c.loop-item.item-index c.item-item.result c.loop-item-test.true c.item-item.is c.args.page.now c.loop-item.page _ c.loop-item.invariant c.in_ok-put_on.ensures
