use Rattle.std.proofs.Common.{◌≡◌, ◌<◌, ◌^◌, drop}
use Rattle.ir_grammar.specs.Numbers.{digits_value}
use Rattle.reader_words.proofs.numbers.decimal.Given as goal

abbrev pub invariant-loop-digit : goal.invariant-loop-digit
invariant-loop-digit l = record { so_far : digits_value l.value (drop l.digit-index l.text) ≡ digits_value 0 l.text; small : l.value < 2 ^ 64 }
