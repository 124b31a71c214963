use Rattle.std.proofs.Common.{cond, ◌∷◌, refl, sym, ap, ◌∙◌}
use Rattle.std.specs.Fmt.{decimal}
use Rattle.std.proofs.lemmas.Result.{on_ok_weaker}
use Rattle.ir_tree.specs.Pages.{with_token}
use Rattle.ir_tree.proofs.Writing.{put_parts, put_opened, decimal_is_number, number_no_mark}
use Rattle.ir_tree.proofs.printing.page.Page.put_integer.Goals as goal

pub returns-then-number : goal.returns-then-number
returns-then-number c =
    on_ok_weaker c.extend_decimal.result
    (λ e. put_parts c.args.self.now c.begin_token.new.self c.extend_decimal.new.self 45 _ c.in_ok-begin_token.ensures e refl refl
    ∙ ap (λ b. with_token c.args.self.now (cond b (45 ∷ decimal c.args.number.magnitude) (decimal c.args.number.magnitude))) (sym c.if-number.true))
    c.extend_decimal.ensures

pub returns : goal.returns
returns c =
    let n = c.args.number.magnitude in
    let mark = number_no_mark (decimal n) (decimal_is_number n) in
    on_ok_weaker c.extend_decimal-2.result
    (λ e. put_opened c.args.self.now c.open.new.self c.extend_decimal-2.new.self (decimal n) c.in_ok-open.ensures e mark.0 mark.1
    ∙ ap (λ b. with_token c.args.self.now (cond b (45 ∷ decimal n) (decimal n))) (sym c.if-number.false))
    c.extend_decimal-2.ensures
