use Rattle.std.proofs.Common.{◌≡◌, length}
use Rattle.phrases.specs.Reading.{with_front}
use Rattle.ir_grammar.specs.Types.{behind_commas}
use Rattle.ir_grammar.specs.Constants.{const_index}
use Rattle.reader_words.specs.Source.{pieces}
use Rattle.reader_types.proofs.operands.const_indices.Given as goal

abbrev pub invariant-commas : goal.invariant-commas
invariant-commas l = with_front l.found ((behind_commas const_index).reads (pieces l.rest)) ≡ (behind_commas const_index).reads (pieces l.source)

abbrev pub decreases-commas : goal.decreases-commas
decreases-commas l = length l.rest.tokens.now
