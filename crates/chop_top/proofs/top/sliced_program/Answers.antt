use Rattle.std.proofs.Common.{sym, ◌∙◌, refl}
use Rattle.chop_top.specs.Refusals.{no_function, no_location}
use Rattle.chop_top.proofs.Slicing.{judged-slice, judged-unknown, none-left}
use Rattle.chop_top.proofs.top.sliced_program.Goals as goal

pub returns-in_default : goal.returns-in_default
returns-in_default c bytes file reads =
    judged-unknown bytes file c.args.function.now c.args.location.now c.args.function.now c.args.program.now c.unknown_line.result c.text_or_memory.result reads
    (no_function (sym c.function_named.ensures.value ∙ none-left c.function_named.result c.in_default.not-Some) refl) c.unknown_line.ensures c.text_or_memory.ensures

pub returns-in-Ok-Some : goal.returns-in-Ok-Some
returns-in-Ok-Some c bytes file reads =
    judged-slice bytes file c.args.function.now c.args.location.now c.args.program.now c.in-Some.func c.in-Ok-Some.at c.slice_text.result c.text_or_memory-in-Ok-Some.result reads
    (sym c.function_named.ensures.value ∙ c.in-Some.is) (sym c.in-Ok-Some.ensures.value ∙ c.in-Ok-Some.field-0-is) c.slice_text.ensures c.text_or_memory-in-Ok-Some.ensures

pub returns-in-Ok-None : goal.returns-in-Ok-None
returns-in-Ok-None c bytes file reads =
    judged-unknown bytes file c.args.function.now c.args.location.now c.args.location.now c.args.program.now c.unknown_line-in-Ok-None.result c.text_or_memory-in-Ok-None.result reads
    (no_location c.in-Some.func (sym c.function_named.ensures.value ∙ c.in-Some.is) (sym c.in-Ok-None.ensures.value ∙ c.in-Ok-None.field-0-is) refl) c.unknown_line-in-Ok-None.ensures c.text_or_memory-in-Ok-None.ensures
