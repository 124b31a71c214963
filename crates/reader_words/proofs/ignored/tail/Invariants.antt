use Rattle.std.proofs.Common.{◌≡◌, length}
use Rattle.ir_grammar.specs.Instructions.{tail}
use Rattle.reader_words.specs.Source.{pieces}
use Rattle.reader_words.proofs.ignored.tail.Given as goal

abbrev pub invariant-tail : goal.invariant-tail
invariant-tail l = tail.reads (pieces l.source) ≡ tail.reads (pieces l.rest)

abbrev pub decreases-tail : goal.decreases-tail
decreases-tail l = length l.rest.tokens.now
