use Rattle.std.proofs.Common.{◌≡◌, length}
use Rattle.ir_grammar.specs.Module.{ignored}
use Rattle.reader_words.specs.Source.{pieces}
use Rattle.reader_words.proofs.ignored.ignored.Given as goal

abbrev pub invariant-ignored : goal.invariant-ignored
invariant-ignored l = ignored.reads (pieces l.source) ≡ ignored.reads (pieces l.rest)

abbrev pub decreases-ignored : goal.decreases-ignored
decreases-ignored l = length l.rest.tokens.now
