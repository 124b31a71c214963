use Rattle.std.proofs.Common.{◌≡◌, codes, length, map, string_bytes}
use Rattle.chop_words.specs.Words as spec
use Rattle.chop_words.proofs.words.hex_word.Given as goal

abbrev pub invariant-words : goal.invariant-words
invariant-words l = spec.word_after (codes "--hex") (map string_bytes l.words) ≡ spec.word_after (codes "--hex") (map string_bytes l.rest)

abbrev pub decreases-words : goal.decreases-words
decreases-words l = length l.rest
