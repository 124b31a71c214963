use Rattle.ir_tree.proofs.Lines.{functions_more}
use Rattle.ir_tree.proofs.printing.lines.put_functions.Goals as goal

pub loop-function-preserved : goal.loop-function-preserved
loop-function-preserved c = functions_more c.args.functions.now c.loop-function.function-index c.function-item.result c.loop-function-test.true c.function-item.is c.args.page.now.text c.loop-function.page.text _ c.loop-function.invariant c.in_ok-put_function.ensures
