use Rattle.std.proofs.Common.{◌≡◌, ◌∙◌, ◌++◌, List, sym, ap, subst}
use Rattle.std.specs.Prelude.{IfOk}
use Rattle.std.specs.List.{flat_map}
use Rattle.std.proofs.lemmas.List.{append-nil}
use Rattle.ir_tree.specs.declared.constants.Value.{Value}
use Rattle.ir_programs.specs.Parts.{constant_values}
use Rattle.tree_constants.specs.Values.{lent}
use Rattle.tree_constants.proofs.Levels.{values_value, values_bytes, values_array, values_struct}
use Rattle.tree_constants.proofs.values.+constants.Goals as goal

pub push_constant-returns-in-Value : goal.push_constant-returns-in-Value
push_constant-returns-in-Value t c =
    let same = values_value c.args.constant.now c.in-Value.kind c.in-Value.value c.in-Value.is in
    subst (λ (vs : List Value). IfOk c.push.result (λ u. lent c.push.new.values.items ≡ lent c.args.values.now.items ++ vs)) (sym same) c.push.ensures

pub push_constant-returns-in-Bytes : goal.push_constant-returns-in-Bytes
push_constant-returns-in-Bytes t c =
    sym (ap (λ (vs : List Value). lent c.args.values.now.items ++ vs) (values_bytes c.args.constant.now c.in-Bytes.kind c.in-Bytes.at c.in-Bytes.bytes c.in-Bytes.is) ∙ append-nil (lent c.args.values.now.items))

pub push_constant-returns-in-Array : goal.push_constant-returns-in-Array
push_constant-returns-in-Array t c =
    let same = ap (flat_map constant_values) c.as_slice.ensures ∙ sym (values_array c.args.constant.now c.in-Array.kind c.in-Array.at c.in-Array.elements c.in-Array.is) in
    subst (λ (vs : List Value). IfOk c.push_constants.result (λ u. lent c.push_constants.new.values.items ≡ lent c.args.values.now.items ++ vs)) same c.push_constants.ensures

pub push_constant-returns-in-Struct : goal.push_constant-returns-in-Struct
push_constant-returns-in-Struct t c =
    let same = ap (flat_map constant_values) c.as_slice-in-Struct.ensures ∙ sym (values_struct c.args.constant.now c.in-Struct.kind c.in-Struct.at c.in-Struct.fields c.in-Struct.packed c.in-Struct.is) in
    subst (λ (vs : List Value). IfOk c.push_constants-in-Struct.result (λ u. lent c.push_constants-in-Struct.new.values.items ≡ lent c.args.values.now.items ++ vs)) same c.push_constants-in-Struct.ensures
