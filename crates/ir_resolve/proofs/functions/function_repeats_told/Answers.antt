use Rattle.std.proofs.Common.{◌∙◌, [], ap, List}
use Rattle.ir_programs.specs.declared.locals.Local.{Local}
use Rattle.ir_programs.specs.Steps.{repeats_left}
use Rattle.ir_resolve.proofs.functions.function_repeats_told.Goals as goal

pub returns : goal.returns
returns c =
    c.repeats_told.ensures ∙ ap (λ (ls : List Local). repeats_left c.args.function.now.header.name.at c.args.told [] ls) (c.as_slice.ensures.value ∙ c.in_ok-names.ensures)
