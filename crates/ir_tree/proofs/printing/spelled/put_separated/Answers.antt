use Rattle.ir_tree.proofs.Spelled.{separated_more}
use Rattle.ir_tree.proofs.printing.spelled.put_separated.Goals as goal

pub loop-index-preserved : goal.loop-index-preserved
loop-index-preserved g c =
    separated_more g.T.Spelled.tokens c.args.items.now c.loop-index.index c.index-items-index.result c.loop-index-test.true c.index-items-index.is c.args.page.now c.loop-index.page _ _ c.loop-index.invariant
    c.in_ok-put_comma_before.ensures c.in_ok-put_on.ensures
