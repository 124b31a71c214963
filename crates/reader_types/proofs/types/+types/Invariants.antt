use Rattle.std.proofs.Common.{◌≡◌, ◌+◌, ◌*◌, length}
use Rattle.phrases.specs.Reading.{with_front}
use Rattle.ir_grammar.specs.Types.{behind_commas, mem_type}
use Rattle.reader_words.specs.Source.{pieces}
use Rattle.reader_types.proofs.types.+types.Given as goal

abbrev pub decreases-array_type : goal.decreases-array_type
decreases-array_type l = 5 * l.inner + 1

abbrev pub decreases-struct_type : goal.decreases-struct_type
decreases-struct_type l = 5 * l.inner + 3

abbrev pub decreases-fields : goal.decreases-fields
decreases-fields l = 5 * l.inner + 2

abbrev pub decreases-other_fields : goal.decreases-other_fields
decreases-other_fields l = 5 * l.inner + 1

abbrev pub decreases-aggregate_or_plain : goal.decreases-aggregate_or_plain
decreases-aggregate_or_plain l = 5 * l.inner + 4

abbrev pub decreases-mem_type : goal.decreases-mem_type
decreases-mem_type l = 5 * l.levels

abbrev pub invariant-other_fields-commas : goal.invariant-other_fields-commas
invariant-other_fields-commas l = with_front l.found ((behind_commas (mem_type l.inner)).reads (pieces l.rest)) ≡ (behind_commas (mem_type l.inner)).reads (pieces l.source)

abbrev pub decreases-other_fields-commas : goal.decreases-other_fields-commas
decreases-other_fields-commas l = length l.rest.tokens.now
