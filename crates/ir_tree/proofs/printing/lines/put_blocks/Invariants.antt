use Rattle.std.proofs.Common.{◌≡◌, ◌++◌, take}
use Rattle.ir_tree.specs.Printing.{text_of, blocks_lines}
use Rattle.ir_tree.proofs.printing.lines.put_blocks.Given as goal

abbrev pub invariant-loop-block : goal.invariant-loop-block
invariant-loop-block l = l.page.text ≡ l.fn.page.text ++ text_of (blocks_lines (take l.block-index l.blocks))
