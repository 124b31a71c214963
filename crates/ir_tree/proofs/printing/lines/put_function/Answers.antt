use Rattle.std.proofs.Common.{◌++◌, ap, ◌∙◌}
use Rattle.std.proofs.lemmas.Result.{on_ok_weaker}
use Rattle.ir_tree.specs.Printing.{text_of, define_line, close_line, blocks_lines}
use Rattle.ir_tree.proofs.Lines.{function_text}
use Rattle.ir_tree.proofs.printing.lines.put_function.Goals as goal

pub returns : goal.returns
returns c =
    on_ok_weaker c.put_close.result
    (λ e. function_text (define_line c.args.function.now.header) close_line (blocks_lines c.args.function.now.blocks) c.args.page.now.text c.put_define.new.page.text c.put_blocks.new.page.text c.put_close.new.page.text c.in_ok-put_define.ensures
    (c.in_ok-put_blocks.ensures ∙ ap (λ xs. c.put_define.new.page.text ++ text_of (blocks_lines xs)) c.as_slice.ensures) e)
    c.put_close.ensures
