use Rattle.ir_tree.proofs.Spelled.{others_more}
use Rattle.ir_tree.proofs.printing.spelled.put_others.Goals as goal

pub loop-item-preserved : goal.loop-item-preserved
loop-item-preserved g c =
    others_more g.T.Spelled.tokens c.args.items.now c.loop-item.item-index c.item-item.result c.loop-item-test.true c.item-item.is c.args.page.now c.loop-item.page _ _ c.loop-item.invariant c.in_ok-put.ensures c.in_ok-put_on.ensures
