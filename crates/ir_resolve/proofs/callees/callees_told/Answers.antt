use Rattle.std.proofs.Common.{◌∙◌, not, ap, List}
use Rattle.std.specs.List.{flat_map}
use Rattle.std.proofs.lemmas.Result.{IfOk-weaker}
use Rattle.ir_tree.specs.declared.module.FunctionDefinition.{FunctionDefinition}
use Rattle.ir_programs.specs.Uses as spec
use Rattle.ir_programs.specs.Texts.{places_where}
use Rattle.ir_programs.specs.Parts.{function_callees as callees_in}
use Rattle.ir_programs.specs.declared.refusals.Cause.TheVariants.{UnknownFunction}
use Rattle.ir_resolve.specs.Telling.{told_of}
use Rattle.ir_resolve.proofs.Telling_more.{places_flat}
use Rattle.ir_resolve.proofs.callees.callees_told.Goals as goal

pub returns : goal.returns
returns c =
    IfOk-weaker c.functions_told.result _ _
    (λ o e. e ∙ ap (told_of UnknownFunction c.args.told)
    (ap (λ (fs : List FunctionDefinition). flat_map (λ f. places_where (λ n. not (spec.is_function c.args.tree.now n.text)) (callees_in f)) fs) c.as_slice.ensures
    ∙ places_flat (λ n. not (spec.is_function c.args.tree.now n.text)) callees_in c.args.tree.now.functions))
    c.functions_told.ensures
