use Rattle.std.proofs.Common.{◌++◌, ap, ◌∙◌}
use Rattle.std.specs.Prelude.{◌||◌}
use Rattle.std.proofs.lemmas.Result.{on_ok_weaker}
use Rattle.ir_tree.specs.Texts.{no_space_before}
use Rattle.ir_tree.specs.Pages.{Written}
use Rattle.ir_tree.proofs.Writing.{put_token}
use Rattle.ir_tree.proofs.printing.page.Page.put.Goals as goal

pub returns : goal.returns
returns c =
    let t = c.args.token.now in
    on_ok_weaker c.extend.result
    (λ e. put_token c.args.self.now c.space_unless.new.self c.extend.new.self t c.stands_close.result
    (c.stands_close.ensures ∙ ap (λ (w : Written). w.glued || no_space_before t) c.self.view_is)
    c.in_ok-space_unless.ensures
    (e ∙ ap (λ (w : Written). record { text = w.text ++ t; glued = c.holds_close-self-inside.result }) c.self-2.view_is ∙ ap (λ b. record { text = c.space_unless.new.self.text ++ t; glued = b }) c.holds_close-self-inside.ensures))
    c.extend.ensures
