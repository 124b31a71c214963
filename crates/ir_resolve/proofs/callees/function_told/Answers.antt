use Rattle.std.proofs.Common.{◌∙◌, not, ap, List}
use Rattle.ir_tree.specs.declared.types.Name.{Name}
use Rattle.ir_programs.specs.declared.refusals.Cause.TheVariants.{UnknownFunction}
use Rattle.ir_programs.specs.Texts.{places_where}
use Rattle.ir_programs.specs.Uses as spec
use Rattle.ir_resolve.specs.Telling.{told_of}
use Rattle.ir_resolve.proofs.callees.function_told.Goals as goal

pub returns : goal.returns
returns c =
    c.unknown_told.ensures ∙ ap (λ (ns : List Name). told_of UnknownFunction c.args.told (places_where (λ n. not (spec.is_function c.args.tree.now n.text)) ns)) (c.as_slice.ensures.value ∙ c.in_ok-names.ensures)
