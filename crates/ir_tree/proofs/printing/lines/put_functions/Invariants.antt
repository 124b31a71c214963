use Rattle.std.proofs.Common.{◌≡◌, ◌++◌, take}
use Rattle.ir_tree.specs.Printing.{text_of, functions_lines}
use Rattle.ir_tree.proofs.printing.lines.put_functions.Given as goal

abbrev pub invariant-loop-function : goal.invariant-loop-function
invariant-loop-function l = l.page.text ≡ l.fn.page.text ++ text_of (functions_lines (take l.function-index l.functions))
