use Rattle.std.proofs.Common.{◌≡◌, ◌≤◌, drop, Some, IfSome}
use Rattle.chop_words.specs.Words.{within}
use Rattle.chop_words.proofs.words.worth.Given as goal

abbrev pub invariant-bytes : goal.invariant-bytes
invariant-bytes l = (within l.most (Some 0) l.digits ≡ within l.most l.number (drop l.byte-index l.digits)) × IfSome l.number (λ n. n ≤ l.most)
