use Rattle.std.proofs.Common.{◌≡◌, ◌+◌, drop, map, string_bytes, Some}
use Rattle.chop_words.specs.Words as spec
use Rattle.chop_words.specs.Words.{AreInRange}
use Rattle.chop_words.proofs.words.fitting.Given as goal

abbrev pub invariant-loop-place : goal.invariant-loop-place
invariant-loop-place l = (spec.fitting (Some spec.nothing_heard) (map string_bytes l.words) ≡ l.place + spec.fitting (Some l.so_far) (map string_bytes (drop l.place l.words))) × AreInRange l.so_far.options
