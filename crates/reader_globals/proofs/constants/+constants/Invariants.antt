use Rattle.std.proofs.Common.{◌≡◌, ◌+◌, ◌*◌, length}
use Rattle.phrases.specs.Reading.{with_front}
use Rattle.ir_grammar.specs.Types.{behind_commas}
use Rattle.ir_grammar.specs.Constants.{typed_constant}
use Rattle.reader_words.specs.Source.{pieces}
use Rattle.reader_globals.proofs.constants.+constants.Given as goal

abbrev pub decreases-array_constant : goal.decreases-array_constant
decreases-array_constant l = 5 * l.inner + 3

abbrev pub decreases-struct_constant : goal.decreases-struct_constant
decreases-struct_constant l = 5 * l.inner + 3

abbrev pub decreases-elements : goal.decreases-elements
decreases-elements l = 5 * l.inner + 2

abbrev pub decreases-other_elements : goal.decreases-other_elements
decreases-other_elements l = 5 * l.inner + 1

abbrev pub decreases-constant_of : goal.decreases-constant_of
decreases-constant_of l = 5 * l.inner + 4

abbrev pub decreases-typed_constant : goal.decreases-typed_constant
decreases-typed_constant l = 5 * l.levels

abbrev pub invariant-other_elements-commas : goal.invariant-other_elements-commas
invariant-other_elements-commas l = with_front l.found ((behind_commas (typed_constant l.inner)).reads (pieces l.rest)) ≡ (behind_commas (typed_constant l.inner)).reads (pieces l.source)

abbrev pub decreases-other_elements-commas : goal.decreases-other_elements-commas
decreases-other_elements-commas l = length l.rest.tokens.now
