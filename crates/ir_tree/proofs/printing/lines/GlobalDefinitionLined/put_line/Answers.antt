use Rattle.std.proofs.Common.{ap, ◌∙◌}
use Rattle.std.specs.Prelude.{codes}
use Rattle.std.proofs.lemmas.Result.{on_ok_weaker}
use Rattle.ir_tree.specs.Texts.{global_text}
use Rattle.ir_tree.specs.Spelling.{constant_tokens}
use Rattle.ir_tree.specs.Printing.{global_line}
use Rattle.ir_tree.specs.Pages.{with_token, after}
use Rattle.ir_tree.proofs.Lines.{line_put}
use Rattle.ir_tree.proofs.printing.lines.GlobalDefinitionLined.put_line.Goals as goal

pub returns : goal.returns
returns c =
    let d = c.args.self.now in
    on_ok_weaker c.end_line.result
    (λ e. line_put (global_line d) c.args.page.now _ _ c.end_line.new.self c.in_ok-begin_line.ensures
    (c.in_ok-put_constant.ensures ∙ ap (λ u. after u (constant_tokens d.value)) (c.in_ok-put-2.ensures ∙ ap (λ u. with_token u (codes "global")) (c.in_ok-put.ensures ∙ ap (λ u. with_token u (codes "="))
    (c.in_ok-put_global.ensures ∙ ap (λ n. with_token c.begin_line.new.self (global_text n)) c.as_slice.ensures))))
    e)
    c.end_line.ensures
