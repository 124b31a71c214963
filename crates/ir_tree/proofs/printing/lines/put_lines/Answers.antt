use Rattle.ir_tree.proofs.Lines.{lines_more}
use Rattle.ir_tree.proofs.printing.lines.put_lines.Goals as goal

pub loop-item-preserved : goal.loop-item-preserved
loop-item-preserved g c =
    lines_more g.T.Lined.line c.args.items.now c.loop-item.item-index c.item-item.result c.loop-item-test.true c.item-item.is c.args.page.now.text c.loop-item.page.text _ c.loop-item.invariant c.in_ok-put_line.ensures
