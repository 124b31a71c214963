use Rattle.std.proofs.Common.{◌≡◌, ◌++◌, drop}
use Rattle.value_texts.specs.Values.{hex}
use Rattle.value_texts.proofs.texts.put_hex.Given as goal

abbrev pub invariant-digits : goal.invariant-digits
invariant-digits l = l.text.items ++ hex (drop l.byte-index l.bytes) ≡ l.initial.text.items ++ hex l.bytes
