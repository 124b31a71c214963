use Rattle.std.proofs.Common.{rules, ◌≡◌, ◌∙◌, ◌++◌, ◌+◌, ◌-◌, ℕ, List, length, drop, map, sym, ap, subst}
use Rattle.std.specs.Prelude.{IfOk}
use Rattle.std.specs.List.{flat_map}
use Rattle.flat_ir.specs.declared.program.InitByte.{InitByte}
use Rattle.flat_ir.specs.declared.program.InitByte.TheVariants as init
use Rattle.ir_tree.specs.declared.constants.Constant.{Constant, the_lemmas}
use Rattle.ir_tree.specs.declared.module.TypeDefinition.{TypeDefinition}
use Rattle.ir_programs.specs.Constants.{head_of}
use Rattle.ir_programs.specs.Programs.{constant_bytes, padded, struct_bytes, value_bytes}
use Rattle.ir_programs.specs.Readable.{has_widths, is_readable_constant, is_readable_value}
use Rattle.ir_programs.specs.Types.{size_of}
use Rattle.tree_constants.proofs.Filling.{zeros, filled, one_more_field}
use Rattle.tree_constants.proofs.Levels.{both_left, both_right, bytes_value, bytes_bytes, bytes_array, bytes_struct, passes_on, readable_value, readable_elements, readable_fields}
use Rattle.tree_constants.proofs.OneByOne.{rest_less}
use Rattle.tree_constants.proofs.bytes.+constants.Goals as goal

pub push_constant-push_value-requires-clause-kind : goal.push_constant-push_value-requires-clause-kind
push_constant-push_value-requires-clause-kind t c =
    both_left (has_widths c.in-Value.kind) (is_readable_value c.in-Value.value) (sym (readable_value c.args.constant.now c.in-Value.kind c.in-Value.value c.in-Value.is) ∙ c.requires.readable)

pub push_constant-push_value-requires-clause-form : goal.push_constant-push_value-requires-clause-form
push_constant-push_value-requires-clause-form t c =
    both_right (has_widths c.in-Value.kind) (is_readable_value c.in-Value.value) (sym (readable_value c.args.constant.now c.in-Value.kind c.in-Value.value c.in-Value.is) ∙ c.requires.readable)

pub push_constant-push_all-requires : goal.push_constant-push_all-requires
push_constant-push_all-requires t c = (
  search (rules, the_lemmas),
  (
    c.requires.rooms,
    (
      c.requires.types,
      readable_elements c.args.constant.now c.in-Array.kind c.in-Array.at c.in-Array.elements c.as_slice-in-Array.result.now c.as_slice-in-Array.ensures c.in-Array.is c.requires.readable,
    ),
  ),
)

pub push_constant-push_fields-requires : goal.push_constant-push_fields-requires
push_constant-push_fields-requires t c = (
  search (rules, the_lemmas),
  (
    c.requires.rooms,
    (
      c.requires.types,
      readable_fields c.args.constant.now c.in-Struct.kind c.in-Struct.at c.in-Struct.fields c.as_slice-in-Struct.result.now c.in-Struct.packed c.as_slice-in-Struct.ensures c.in-Struct.is c.requires.readable,
    ),
  ),
)

pub push_constant-returns-in_ok-push_value-in-Value : goal.push_constant-returns-in_ok-push_value-in-Value
push_constant-returns-in_ok-push_value-in-Value t c =
    let tree = c.args.tree.now in
    let old = c.args.bytes.now.items in
    let all = c.push_value.new.bytes.items in
    let kind = c.in-Value.kind in
    let inner = value_bytes tree (head_of tree.types kind) c.in-Value.value.form in
    let start : c.len-start.result ≡ length old = search rules in
    let size : c.size_of.result ≡ size_of tree.types kind = c.size_of.ensures ∙ ap (λ (ts : List TypeDefinition). size_of ts kind) c.as_slice-types.ensures in
    let whole : all ++ zeros (c.len-start.result + c.size_of.result - length all) ≡ old ++ constant_bytes tree c.args.constant.now =
    filled old inner all c.len-start.result c.size_of.result start c.in_ok-push_value-in-Value.ensures
    ∙ (ap (λ (n : ℕ). old ++ padded n inner) size ∙ ap (λ (bs : List InitByte). old ++ bs) (sym (bytes_value tree c.args.constant.now kind c.in-Value.value c.in-Value.is))) in
    subst (λ (bs : List InitByte). IfOk c.pad.result (λ u. c.pad.new.bytes.items ≡ bs)) whole c.pad.ensures

pub push_constant-returns-in-Bytes : goal.push_constant-returns-in-Bytes
push_constant-returns-in-Bytes t c =
    let same = ap (map init.Int) c.as_slice.ensures ∙ sym (bytes_bytes c.args.tree.now c.args.constant.now c.in-Bytes.kind c.in-Bytes.at c.in-Bytes.text c.in-Bytes.is) in
    subst (λ (bs : List InitByte). IfOk c.push_text.result (λ u. c.push_text.new.bytes.items ≡ c.args.bytes.now.items ++ bs)) same c.push_text.ensures

pub push_constant-returns-in-Array : goal.push_constant-returns-in-Array
push_constant-returns-in-Array t c =
    let same = ap (flat_map (constant_bytes c.args.tree.now)) c.as_slice-in-Array.ensures ∙ sym (bytes_array c.args.tree.now c.args.constant.now c.in-Array.kind c.in-Array.at c.in-Array.elements c.in-Array.is) in
    subst (λ (bs : List InitByte). IfOk c.push_all.result (λ u. c.push_all.new.bytes.items ≡ c.args.bytes.now.items ++ bs)) same c.push_all.ensures

pub push_constant-returns-in_ok-push_fields-in-Struct : goal.push_constant-returns-in_ok-push_fields-in-Struct
push_constant-returns-in_ok-push_fields-in-Struct t c =
    let tree = c.args.tree.now in
    let old = c.args.bytes.now.items in
    let all = c.push_fields.new.bytes.items in
    let kind = c.in-Struct.kind in
    let inner = struct_bytes tree (head_of tree.types kind) (map (constant_bytes tree) c.in-Struct.fields) in
    let start : c.len-start.result ≡ length old = search rules in
    let size : c.size_of-in-Struct.result ≡ size_of tree.types kind = c.size_of-in-Struct.ensures ∙ ap (λ (ts : List TypeDefinition). size_of ts kind) c.as_slice-types.ensures in
    let within : all ≡ old ++ inner =
    c.in_ok-push_fields-in-Struct.ensures
    ∙ ap (λ (bs : List InitByte). old ++ bs)
    (sym (c.shape_of-shape.ensures tree (map (constant_bytes tree) c.as_slice-in-Struct.result.now))
    ∙ (ap (λ (ts : List TypeDefinition). struct_bytes tree (head_of ts kind) (map (constant_bytes tree) c.as_slice-in-Struct.result.now)) c.as_slice-types.ensures
    ∙ ap (λ (cs : List Constant). struct_bytes tree (head_of tree.types kind) (map (constant_bytes tree) cs)) c.as_slice-in-Struct.ensures)) in
    let whole : all ++ zeros (c.len-start.result + c.size_of-in-Struct.result - length all) ≡ old ++ constant_bytes tree c.args.constant.now =
    filled old inner all c.len-start.result c.size_of-in-Struct.result start within
    ∙ (ap (λ (n : ℕ). old ++ padded n inner) size
    ∙ ap (λ (bs : List InitByte). old ++ bs) (sym (bytes_struct tree c.args.constant.now kind c.in-Struct.at c.in-Struct.fields c.in-Struct.packed c.in-Struct.is))) in
    subst (λ (bs : List InitByte). IfOk c.pad-in-Struct.result (λ u. c.pad-in-Struct.new.bytes.items ≡ bs)) whole c.pad-in-Struct.ensures

pub push_fields-loop-place-preserved : goal.push_fields-loop-place-preserved
push_fields-loop-place-preserved t c =
    let cs = c.args.constants.now in
    let place = c.loop-place.place in
    let one = c.index-constants-place.result in
    let all = c.loop-place.bytes.items in
    let start : c.len-start.result ≡ length c.args.bytes.now.items = search rules in
    record {
      readable = passes_on is_readable_constant (drop place cs) (drop (place + 1) cs) one c.loop-place.invariant.readable (rest_less cs place one c.loop-place-test.true c.index-constants-place.is);
      made = one_more_field c.args.tree.now c.args.shape.now.fields.now c.args.shape.now.packed cs c.args.bytes.now.items place c.len-start.result one all c.pad.new.bytes.items c.push_constant.new.bytes.items
          c.loop-place-test.true c.index-constants-place.is start (c.in_ok-pad.ensures ∙ ap (λ (o : ℕ). all ++ zeros (c.len-start.result + o - length all)) c.place_in-offset.ensures)
          c.in_ok-push_constant.ensures c.loop-place.invariant.made;
    }
