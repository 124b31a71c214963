use Rattle.std.proofs.Common.{map}
use Rattle.std.proofs.lemmas.Result.{IfOk-equal}
use Rattle.tree_types.proofs.Within.{value_put, bytes_put, array_put, struct_put}
use Rattle.tree_types.proofs.pieces.+constants.Goals as goal

pub push_constant-returns-in-Value : goal.push_constant-returns-in-Value
push_constant-returns-in-Value t c = IfOk-equal c.push_type.result _ _ _ c.push_type.ensures (value_put _ c.args.constant.now c.in-Value.kind c.in-Value.value c.in-Value.is)

pub push_constant-returns-in-Bytes : goal.push_constant-returns-in-Bytes
push_constant-returns-in-Bytes t c = IfOk-equal c.push_type-in-Bytes.result _ _ _ c.push_type-in-Bytes.ensures (bytes_put _ c.args.constant.now c.in-Bytes.kind c.in-Bytes.at c.in-Bytes.bytes c.in-Bytes.is)

pub push_constant-returns-in_ok-push_type-in-Array : goal.push_constant-returns-in_ok-push_type-in-Array
push_constant-returns-in_ok-push_type-in-Array t c =
    IfOk-equal c.push_constants.result _ _ _ c.push_constants.ensures
    (array_put (map (λ r. r.now) c.args.types.now.items) _ c.args.constant.now c.in-Array.kind c.in-Array.at c.in-Array.elements c.as_slice.result.now c.in-Array.is c.as_slice.ensures c.in_ok-push_type-in-Array.ensures)

pub push_constant-returns-in_ok-push_type-in-Struct : goal.push_constant-returns-in_ok-push_type-in-Struct
push_constant-returns-in_ok-push_type-in-Struct t c =
    IfOk-equal c.push_constants-in-Struct.result _ _ _ c.push_constants-in-Struct.ensures
    (struct_put (map (λ r. r.now) c.args.types.now.items) _ c.args.constant.now c.in-Struct.kind c.in-Struct.at c.in-Struct.fields c.as_slice-in-Struct.result.now c.in-Struct.packed c.in-Struct.is c.as_slice-in-Struct.ensures
    c.in_ok-push_type-in-Struct.ensures)
