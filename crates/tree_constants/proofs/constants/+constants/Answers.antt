use Rattle.std.proofs.Common.{◌∙◌, Bool, List, None, map, refl, sym, ap}
use Rattle.std.specs.List.{flat_map}
use Rattle.ir_tree.specs.declared.types.IrType.{IrType}
use Rattle.ir_tree.specs.declared.types.IrType.TheOpen.{IrType-F}
use Rattle.ir_tree.specs.declared.constants.Constant.{Constant}
use Rattle.ir_programs.specs.Constants.{bad_constants, bad_value, head_of, is_array_of, is_string_of, is_struct_of, or_within, unless_fits}
use Rattle.ir_programs.specs.Refusals.{merged}
use Rattle.ir_programs.specs.declared.refusals.Cause.TheVariants.{BadInitialiser}
use Rattle.tree_constants.specs.Judging.{judged}
use Rattle.tree_constants.specs.Telling.{told_at}
use Rattle.tree_constants.proofs.Levels.{bad_of_value, bad_of_bytes, bad_of_array, bad_of_struct}
use Rattle.tree_constants.proofs.OneByOne.{one_more}
use Rattle.tree_constants.proofs.constants.+constants.Goals as goal

pub bad_among-loop-constant-preserved : goal.bad_among-loop-constant-preserved
bad_among-loop-constant-preserved t c =
    let bad = bad_constants c.args.types.now in
    one_more BadInitialiser (flat_map bad) bad (λ x xs. refl) c.args.constants.now c.loop-constant.constant-index c.constant-item.result
    c.loop-constant-test.true c.constant-item.is None c.loop-constant.now c.merged-now.result (c.merged-now.ensures ∙ ap (merged c.loop-constant.now) c.bad_of.ensures) c.loop-constant.invariant

pub bad_of-returns-in-Value : goal.bad_of-returns-in-Value
bad_of-returns-in-Value t c =
    let ts = c.args.types.now in
    c.bad_value_of.ensures
    ∙ ap (told_at BadInitialiser None)
    (ap (λ (l : IrType-F IrType). bad_value ts l c.in-Value.value) c.head_of.ensures ∙ sym (bad_of_value ts c.args.constant.now c.in-Value.kind c.in-Value.value c.in-Value.is))

pub bad_of-returns-in-Bytes : goal.bad_of-returns-in-Bytes
bad_of-returns-in-Bytes t c =
    let ts = c.args.types.now in
    let fits = c.is_string_of-fits.ensures ∙ (ap (λ (l : IrType-F IrType). is_string_of ts l c.as_slice.result.now) c.head_of-in-Bytes.ensures ∙ ap (is_string_of ts (head_of ts c.in-Bytes.kind)) c.as_slice.ensures) in
    c.noted_unless.ensures
    ∙ ap (told_at BadInitialiser None) (ap (λ (b : Bool). unless_fits b c.in-Bytes.at) fits ∙ sym (bad_of_bytes ts c.args.constant.now c.in-Bytes.kind c.in-Bytes.at c.in-Bytes.bytes c.in-Bytes.is))

pub bad_of-returns-in-Array : goal.bad_of-returns-in-Array
bad_of-returns-in-Array t c =
    let ts = c.args.types.now in
    let all = λ (cs : List Constant). told_at BadInitialiser None (flat_map (bad_constants ts) cs) in
    let fits = c.is_array_of-fits.ensures
    ∙ (ap (λ (l : IrType-F IrType). is_array_of ts l (map (judged ts) c.as_slice-in-Array-2.result.now)) c.head_of-in-Array.ensures
    ∙ ap (λ (cs : List Constant). is_array_of ts (head_of ts c.in-Array.kind) (map (judged ts) cs)) c.as_slice-in-Array-2.ensures) in
    c.or_within.ensures (flat_map (bad_constants ts) c.in-Array.elements) (c.bad_among-within.ensures ∙ ap all c.as_slice-in-Array.ensures)
    ∙ ap (told_at BadInitialiser None)
    (ap (λ (b : Bool). or_within (unless_fits b c.in-Array.at) (flat_map (bad_constants ts) c.in-Array.elements)) fits
    ∙ sym (bad_of_array ts c.args.constant.now c.in-Array.kind c.in-Array.at c.in-Array.elements c.in-Array.is))

pub bad_of-returns-in-Struct : goal.bad_of-returns-in-Struct
bad_of-returns-in-Struct t c =
    let ts = c.args.types.now in
    let all = λ (cs : List Constant). told_at BadInitialiser None (flat_map (bad_constants ts) cs) in
    let fits = c.is_struct_of-fits.ensures
    ∙ (ap (λ (l : IrType-F IrType). is_struct_of ts l c.in-Struct.packed (map (judged ts) c.as_slice-in-Struct-2.result.now)) c.head_of-in-Struct.ensures
    ∙ ap (λ (cs : List Constant). is_struct_of ts (head_of ts c.in-Struct.kind) c.in-Struct.packed (map (judged ts) cs)) c.as_slice-in-Struct-2.ensures) in
    c.or_within-in-Struct.ensures (flat_map (bad_constants ts) c.in-Struct.fields) (c.bad_among-within-in-Struct.ensures ∙ ap all c.as_slice-in-Struct.ensures)
    ∙ ap (told_at BadInitialiser None)
    (ap (λ (b : Bool). or_within (unless_fits b c.in-Struct.at) (flat_map (bad_constants ts) c.in-Struct.fields)) fits
    ∙ sym (bad_of_struct ts c.args.constant.now c.in-Struct.kind c.in-Struct.at c.in-Struct.fields c.in-Struct.packed c.in-Struct.is))
