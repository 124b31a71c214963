use Rattle.std.proofs.Common.{sym, ◌∙◌, ◌^◌}
use Rattle.reader_words.proofs.Digits.{all_read, too_large}
use Rattle.reader_words.proofs.numbers.decimal.Goals as goal

pub returns-in_err-value : goal.returns-in_err-value
returns-in_err-value c = c.from_residual.ensures ∙ too_large c.loop-digit.value _ c.args.text.now c.loop-digit.digit-index (2 ^ 64) c.loop-digit-test.true (sym c.in_err-value.was ∙ c.with_digit.ensures) c.loop-digit.invariant.so_far

pub returns : goal.returns
returns c = all_read c.loop-digit.value _ c.args.text.now c.loop-digit.digit-index (2 ^ 64) c.loop-digit.invariant.small c.loop-digit-test.false c.loop-digit.invariant.so_far
