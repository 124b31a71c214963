use Rattle.std.proofs.Common.{◌≡◌, length}
use Rattle.ir_grammar.specs.Types.{attributes}
use Rattle.reader_words.specs.Source.{pieces}
use Rattle.reader_words.proofs.ignored.attributes.Given as goal

abbrev pub invariant-attributes : goal.invariant-attributes
invariant-attributes l = attributes.reads (pieces l.source) ≡ attributes.reads (pieces l.rest)

abbrev pub decreases-attributes : goal.decreases-attributes
decreases-attributes l = length l.rest.tokens.now
