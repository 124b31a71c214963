use Rattle.std.proofs.Common.{◌∙◌, List, not, ap}
use Rattle.std.specs.List.{flat_map}
use Rattle.ir_tree.specs.declared.constants.Value.{Value}
use Rattle.ir_programs.specs.Constants.{wide_value_indices}
use Rattle.ir_programs.specs.Texts.{places_where}
use Rattle.ir_programs.specs.Uses.{is_function, global_uses}
use Rattle.ir_programs.specs.declared.refusals.Cause.TheVariants.{UnknownName, FunctionValue, BadInitialiser}
use Rattle.tree_constants.specs.Telling.{told_at, is_known}
use Rattle.tree_constants.specs.Values.{lent}
use Rattle.tree_constants.proofs.told.values_told.Goals as goal

pub returns : goal.returns
returns c =
    let t = c.args.tree.now in
    c.uses_told.ensures
    ∙ ap (λ (vs : List Value). told_at BadInitialiser (told_at FunctionValue (told_at UnknownName c.args.told (places_where (λ n. not (is_known t n.text)) (global_uses vs))) (places_where (λ n. is_function t n.text) (global_uses vs))) (flat_map wide_value_indices vs))
    (ap lent c.as_slice.ensures.value ∙ c.in_ok-values.ensures)
