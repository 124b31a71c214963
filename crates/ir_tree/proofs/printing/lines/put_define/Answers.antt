use Rattle.std.proofs.Common.{◌∷◌, [], sym, ap, ◌∙◌}
use Rattle.std.specs.Prelude.{codes}
use Rattle.std.proofs.lemmas.Result.{on_ok_weaker}
use Rattle.ir_tree.specs.Printing.{header_tokens, define_line}
use Rattle.ir_tree.specs.Pages.{with_token, after}
use Rattle.ir_tree.proofs.Writing.{after_append}
use Rattle.ir_tree.proofs.Lines.{line_put}
use Rattle.ir_tree.proofs.printing.lines.put_define.Goals as goal

pub returns : goal.returns
returns c =
    on_ok_weaker c.end_line.result
    (λ e. line_put (define_line c.args.header.now) c.args.page.now _ _ c.end_line.new.self c.in_ok-begin_line.ensures
    (c.in_ok-put-2.ensures ∙ ap (λ u. with_token u (codes "{")) (c.in_ok-put_header.ensures ∙ ap (λ u. after u (header_tokens c.args.header.now)) c.in_ok-put.ensures)
    ∙ sym (after_append (with_token c.begin_line.new.self (codes "define")) (header_tokens c.args.header.now) (codes "{" ∷ [])))
    e)
    c.end_line.ensures
