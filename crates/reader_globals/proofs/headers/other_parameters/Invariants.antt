use Rattle.std.proofs.Common.{◌≡◌, length}
use Rattle.ir_grammar.specs.Types.{behind_commas}
use Rattle.ir_grammar.specs.Module.{parameter}
use Rattle.phrases.specs.Reading.{with_front}
use Rattle.reader_words.specs.Source.{pieces}
use Rattle.reader_globals.proofs.headers.other_parameters.Given as goal

abbrev pub invariant-commas : goal.invariant-commas
invariant-commas l = with_front l.found ((behind_commas parameter).reads (pieces l.rest)) ≡ (behind_commas parameter).reads (pieces l.source)

abbrev pub decreases-commas : goal.decreases-commas
decreases-commas l = length l.rest.tokens.now
