use Rattle.std.proofs.Common.{◌≡◌, length}
use Rattle.phrases.specs.Phrase.{many}
use Rattle.ir_grammar.specs.Module.{entity, entity_starts, module_text}
use Rattle.ir_reader.specs.Entities.{collected_after}
use Rattle.reader_words.specs.Source.{pieces}
use Rattle.ir_reader.proofs.entities.module.Given as goal

abbrev pub invariant-entities : goal.invariant-entities
invariant-entities l = collected_after l.tree ((many entity_starts entity).reads (pieces l.rest)) ≡ module_text.reads (pieces l.source)

abbrev pub decreases-entities : goal.decreases-entities
decreases-entities l = length l.rest.tokens.now
