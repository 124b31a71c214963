use Rattle.std.proofs.Common.{◌∷◌, [], ◌++◌, map, ap, ◌∙◌}
use Rattle.std.proofs.lemmas.Result.{on_ok_weaker}
use Rattle.ir_tree.specs.Printing.{text_of, label_lines, phi_line, instruction_line, terminator_line}
use Rattle.ir_tree.proofs.Lines.{four_texts, one_line}
use Rattle.ir_tree.proofs.printing.lines.put_block.Goals as goal

pub returns : goal.returns
returns c =
    let block = c.args.block.now in
    on_ok_weaker c.put_line.result
    (λ e. four_texts (label_lines block.label) (map phi_line block.phis) (map instruction_line block.instructions) (terminator_line block.terminator ∷ []) c.args.page.now.text _ _ _ c.put_line.new.page.text
    c.in_ok-put_label.ensures
    (c.in_ok-put_lines.ensures ∙ ap (λ xs. c.put_label.new.page.text ++ text_of (map phi_line xs)) c.as_slice.ensures)
    (c.in_ok-put_lines-2.ensures ∙ ap (λ xs. c.put_lines.new.page.text ++ text_of (map instruction_line xs)) c.as_slice-2.ensures)
    (one_line (terminator_line block.terminator) _ _ e))
    c.put_line.ensures
