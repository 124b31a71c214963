use Rattle.std.proofs.Common.{◌≡◌, ◌++◌, map, take}
use Rattle.ir_tree.specs.Printing.{text_of}
use Rattle.ir_tree.proofs.printing.lines.put_lines.Given as goal

abbrev pub invariant-loop-item : goal.invariant-loop-item
invariant-loop-item g l = l.page.text ≡ l.fn.page.text ++ text_of (map g.T.Lined.line (take l.item-index l.items))
