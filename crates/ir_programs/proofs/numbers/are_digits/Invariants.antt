use Rattle.std.proofs.Common.{◌≡◌, drop}
use Rattle.ir_grammar.specs.Tokens.{are_digits as digits_in}
use Rattle.ir_programs.proofs.numbers.are_digits.Given as goal

abbrev pub invariant-bytes : goal.invariant-bytes
invariant-bytes l = digits_in l.text ≡ digits_in (drop l.byte-index l.text)
