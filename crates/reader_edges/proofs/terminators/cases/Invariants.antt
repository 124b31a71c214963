use Rattle.std.proofs.Common.{◌≡◌, ◌∷◌, [], length}
use Rattle.phrases.specs.Phrase.{many}
use Rattle.ir_grammar.specs.Tokens.{integer_type}
use Rattle.ir_grammar.specs.Instructions.{case}
use Rattle.phrases.specs.Reading.{with_front}
use Rattle.reader_words.specs.Source.{pieces}
use Rattle.reader_edges.proofs.terminators.cases.Given as goal

abbrev pub invariant-cases : goal.invariant-cases
invariant-cases l = with_front l.found ((many (integer_type ∷ []) case).reads (pieces l.rest)) ≡ (many (integer_type ∷ []) case).reads (pieces l.source)

abbrev pub decreases-cases : goal.decreases-cases
decreases-cases l = length l.rest.tokens.now
