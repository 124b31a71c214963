use Rattle.std.proofs.Common.{◌≡◌, length}
use Rattle.phrases.specs.Phrase.{many}
use Rattle.ir_grammar.specs.Instructions.{block, block_starts}
use Rattle.phrases.specs.Reading.{with_front}
use Rattle.reader_words.specs.Source.{pieces}
use Rattle.reader_blocks.proofs.blocks.blocks.Given as goal

abbrev pub invariant-turns : goal.invariant-turns
invariant-turns l = with_front l.found ((many block_starts block).reads (pieces l.rest)) ≡ (many block_starts block).reads (pieces l.source)

abbrev pub decreases-turns : goal.decreases-turns
decreases-turns l = length l.rest.tokens.now
