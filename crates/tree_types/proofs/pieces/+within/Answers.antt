use Rattle.std.proofs.lemmas.Result.{IfOk-equal}
use Rattle.tree_types.proofs.Within.{value_within_put, bytes_within_put, array_within_put, struct_within_put}
use Rattle.tree_types.proofs.pieces.+within.Goals as goal

pub push_within_constant-returns-in-Value : goal.push_within_constant-returns-in-Value
push_within_constant-returns-in-Value t c = IfOk-equal c.push_value.result _ _ _ c.push_value.ensures (value_within_put _ c.args.constant.now c.in-Value.kind c.in-Value.value c.in-Value.is)

pub push_within_constant-returns-in-Bytes : goal.push_within_constant-returns-in-Bytes
push_within_constant-returns-in-Bytes t c = bytes_within_put _ c.args.constant.now c.in-Bytes.kind c.in-Bytes.at c.in-Bytes.bytes c.in-Bytes.is

pub push_within_constant-returns-in-Array : goal.push_within_constant-returns-in-Array
push_within_constant-returns-in-Array t c =
    IfOk-equal c.push_within_constants.result _ _ _ c.push_within_constants.ensures
    (array_within_put _ c.args.constant.now c.in-Array.kind c.in-Array.at c.in-Array.elements c.as_slice.result.now c.in-Array.is c.as_slice.ensures)

pub push_within_constant-returns-in-Struct : goal.push_within_constant-returns-in-Struct
push_within_constant-returns-in-Struct t c =
    IfOk-equal c.push_within_constants-in-Struct.result _ _ _ c.push_within_constants-in-Struct.ensures
    (struct_within_put _ c.args.constant.now c.in-Struct.kind c.in-Struct.at c.in-Struct.fields c.as_slice-in-Struct.result.now c.in-Struct.packed c.in-Struct.is c.as_slice-in-Struct.ensures)
