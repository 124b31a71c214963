use Rattle.std.proofs.Common.{◌≡◌, drop, map, string_bytes, Some, IfSome}
use Rattle.chop_words.specs.Words as spec
use Rattle.chop_words.specs.Words.{AreInRange}
use Rattle.chop_words.proofs.words.hear_all.Given as goal

abbrev pub invariant-words : goal.invariant-words
invariant-words l = (spec.heard (Some spec.nothing_heard) (map string_bytes l.words) ≡ spec.heard l.so_far (map string_bytes (drop l.word-index l.words))) × IfSome l.so_far (λ h. AreInRange h.options)
