use Rattle.std.proofs.Common.{◌^◌, ◌<◌, ap, sym, ◌∙◌, arith}
use Rattle.std.proofs.lemmas.Result.{on_ok_weaker}
use Rattle.std.proofs.lemmas.Fmt.{decimal_digit}
use Rattle.ir_tree.specs.Pages.{extended}
use Rattle.ir_tree.proofs.Writing.{last_digit}
use Rattle.ir_tree.proofs.printing.page.Page.+extend_decimal.Goals as goal

pub returns-then-number-lt10 : goal.returns-then-number-lt10
returns-then-number-lt10 t c = on_ok_weaker c.extend.result (λ e. e ∙ ap (extended c.args.self.now) (sym (decimal_digit c.args.number c.if-number-lt10.true))) c.extend.ensures

pub returns : goal.returns
returns t c =
    let high : c.args.number < 2 ^ 64 = omega (arith, c.ranges.number.fits) in
    on_ok_weaker c.extend-2.result (λ e. last_digit c.args.self.now c.extend_decimal.new.self c.extend-2.new.self c.args.number c.if-number-lt10.false high c.in_ok-extend_decimal.ensures e) c.extend-2.ensures
