use Rattle.std.proofs.Common.{◌++◌, map, ap, ◌∙◌}
use Rattle.std.proofs.lemmas.Result.{on_ok_weaker}
use Rattle.ir_tree.specs.Printing.{text_of, type_line, global_line, declare_line, functions_lines}
use Rattle.ir_tree.proofs.Lines.{four_texts}
use Rattle.ir_tree.proofs.printing.lines.put_module.Goals as goal

pub returns : goal.returns
returns c =
    let tree = c.args.tree.now in
    on_ok_weaker c.put_functions.result
    (λ e. four_texts (map type_line tree.types) (map global_line tree.globals) (map declare_line tree.declares) (functions_lines tree.functions) c.args.page.now.text _ _ _ c.put_functions.new.page.text
    (c.in_ok-put_lines.ensures ∙ ap (λ xs. c.args.page.now.text ++ text_of (map type_line xs)) c.as_slice.ensures)
    (c.in_ok-put_lines-2.ensures ∙ ap (λ xs. c.put_lines.new.page.text ++ text_of (map global_line xs)) c.as_slice-2.ensures)
    (c.in_ok-put_lines-3.ensures ∙ ap (λ xs. c.put_lines-2.new.page.text ++ text_of (map declare_line xs)) c.as_slice-3.ensures)
    (e ∙ ap (λ xs. c.put_lines-3.new.page.text ++ text_of (functions_lines xs)) c.as_slice-4.ensures))
    c.put_functions.ensures
