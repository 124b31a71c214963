use Rattle.std.proofs.Common.{◌≡◌, drop}
use Rattle.ir_grammar.specs.Tokens.{are_digits}
use Rattle.reader_words.proofs.words.are_digits.Given as goal

abbrev pub invariant-loop-byte : goal.invariant-loop-byte
invariant-loop-byte l = are_digits (drop l.byte-index l.text) ≡ are_digits l.text
