use Rattle.std.proofs.Common.{◌∙◌, ◌++◌, List, Bor, map, sym, ap}
use Rattle.std.proofs.lemmas.Result.{IfOk-equal}
use Rattle.ir_tree.specs.declared.types.IrType.{IrType}
use Rattle.tree_types.proofs.Inner.{array_nested, struct_nested, in_default}
use Rattle.tree_types.proofs.nested.+nested.Goals as goal

pub push_nested-returns-in-Array : goal.push_nested-returns-in-Array
push_nested-returns-in-Array t c =
    IfOk-equal c.push_nested.result _ _ _ c.push_nested.ensures
    (array_nested (map (λ (r : Bor IrType). r.now) c.args.types.now.items) _ c.args.kind.now c.in-Array.at c.in-Array.len c.in-Array.element c.get.result.now c.in-Array.is c.get.ensures c.in_ok-push_type.ensures)

pub push_nested-returns-in-Struct : goal.push_nested-returns-in-Struct
push_nested-returns-in-Struct t c =
    IfOk-equal c.push_all_nested.result _ _ _ c.push_all_nested.ensures
    (struct_nested (map (λ (r : Bor IrType). r.now) c.args.types.now.items) _ c.args.kind.now c.in-Struct.at c.in-Struct.fields c.as_slice.result.now c.in-Struct.packed c.in-Struct.is c.as_slice.ensures c.in_ok-push_type.ensures)

pub push_nested-returns-in_default : goal.push_nested-returns-in_default
push_nested-returns-in_default t c =
    c.in_ok-push_type.ensures ∙ ap (λ (ts : List IrType). map (λ (r : Bor IrType). r.now) c.args.types.now.items ++ ts) (sym (in_default c.args.kind.now c.in_default.not-Array c.in_default.not-Struct))
