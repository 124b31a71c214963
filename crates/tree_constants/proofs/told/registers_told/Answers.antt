use Rattle.std.proofs.Common.{◌∙◌, ℕ, List, not, ap}
use Rattle.ir_tree.specs.declared.constants.Value.{Value}
use Rattle.ir_programs.specs.Parts.{function_values}
use Rattle.ir_programs.specs.Texts.{among, places_where}
use Rattle.ir_programs.specs.Uses.{local_uses}
use Rattle.ir_programs.specs.declared.refusals.Cause.TheVariants.{UnknownName}
use Rattle.tree_constants.specs.Telling.{told_at}
use Rattle.tree_constants.specs.Values.{lent}
use Rattle.tree_constants.proofs.told.registers_told.Goals as goal

pub returns : goal.returns
returns c =
    c.locals_told.ensures
    ∙ (ap (λ (vs : List Value). told_at UnknownName c.args.told (places_where (λ n. not (among n.text c.args.names.now)) (local_uses vs))) (ap lent c.as_slice.ensures.value ∙ c.in_ok-values.ensures)
    ∙ ap (λ (ns : List (List ℕ)). told_at UnknownName c.args.told (places_where (λ n. not (among n.text ns)) (local_uses (function_values c.args.function.now)))) c.requires)
