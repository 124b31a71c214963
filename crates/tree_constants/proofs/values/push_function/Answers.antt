use Rattle.std.proofs.Common.{◌≡◌, ◌∙◌, ◌++◌, List, ap, subst}
use Rattle.std.specs.Prelude.{IfOk}
use Rattle.std.specs.List.{flat_map}
use Rattle.ir_tree.specs.declared.constants.Value.{Value}
use Rattle.tree_constants.specs.Values.{lent, values_of_block}
use Rattle.tree_constants.proofs.Walking.{blocks_bare}
use Rattle.tree_constants.proofs.values.push_function.Goals as goal

pub returns : goal.returns
returns c =
    let same = ap (flat_map values_of_block) c.as_slice.ensures ∙ blocks_bare c.args.function.now.blocks in
    subst (λ (vs : List Value). IfOk c.push_blocks.result (λ u. lent c.push_blocks.new.values.items ≡ lent c.args.values.now.items ++ vs)) same c.push_blocks.ensures
