use Rattle.std.proofs.Common.{◌≡◌, length}
use Rattle.ir_grammar.specs.Types.{behind_commas}
use Rattle.ir_grammar.specs.Instructions.{argument}
use Rattle.phrases.specs.Reading.{with_front}
use Rattle.reader_words.specs.Source.{pieces}
use Rattle.reader_operations.proofs.calls.other_arguments.Given as goal

abbrev pub invariant-commas : goal.invariant-commas
invariant-commas l = with_front l.found ((behind_commas argument).reads (pieces l.rest)) ≡ (behind_commas argument).reads (pieces l.source)

abbrev pub decreases-commas : goal.decreases-commas
decreases-commas l = length l.rest.tokens.now
