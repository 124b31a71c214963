use Rattle.std.proofs.Common.{◌∙◌, sym, arith}
use Rattle.ir_tree.specs.Extents.{steps_within}
use Rattle.tree_types.specs.Alike.{spelled}
use Rattle.tree_types.proofs.Spelled.{no, not_so, through_fact, behind, ints_alike, names_alike, arrays_apart, arrays_alike, structs_apart, structs_alike, int_alone, ptr_alone, array_alone, struct_alone, named_alone, one_apart, one_more, sum_at, by_texts}
use Rattle.tree_types.proofs.alike.+alike.Goals as goal

pub are_alike-are_alike-requires : goal.are_alike-are_alike-requires
are_alike-are_alike-requires t c =
    let b = behind c.args.types.now c.args.a_names c.args.a.now c.in-Some.inner.now c.in-Some.ensures in
    (omega (arith, c.decreases, b.falls), tt)

pub are_alike-are_alike-requires-in-Some-behind_name : goal.are_alike-are_alike-requires-in-Some-behind_name
are_alike-are_alike-requires-in-Some-behind_name t c =
    let b = behind c.args.types.now c.args.b_names c.args.b.now c.in-Some-behind_name.inner.now c.in-Some-behind_name.ensures in
    (omega (arith, c.decreases, b.falls), tt)

pub are_alike-returns-in-Some : goal.are_alike-returns-in-Some
are_alike-returns-in-Some t c =
    let b = behind c.args.types.now c.args.a_names c.args.a.now c.in-Some.inner.now c.in-Some.ensures in
    through_fact c.are_alike.result (λ h. b.same ∙ h) (λ h. sym b.same ∙ h) c.are_alike.ensures

pub are_alike-returns-in-Some-behind_name : goal.are_alike-returns-in-Some-behind_name
are_alike-returns-in-Some-behind_name t c =
    let b = behind c.args.types.now c.args.b_names c.args.b.now c.in-Some-behind_name.inner.now c.in-Some-behind_name.ensures in
    through_fact c.are_alike-in-Some-behind_name.result (λ h. h ∙ sym b.same) (λ h. h ∙ b.same) c.are_alike-in-Some-behind_name.ensures

pub are_each_alike-are_alike-requires : goal.are_each_alike-are_alike-requires
are_each_alike-are_alike-requires t c =
    let one = sum_at (steps_within c.args.a_names c.args.types.now) c.args.a.now c.fields.place c.index-a-place.result c.fields-test.true c.index-a-place.is in
    let two = sum_at (steps_within c.args.b_names c.args.types.now) c.args.b.now c.fields.place c.index-b-place.result (omega (arith, c.fields-test.true, c.if-a-b.false)) c.index-b-place.is in
    (omega (arith, c.decreases, one, two), tt)

pub are_each_alike-returns-then-not-are_alike : goal.are_each_alike-returns-then-not-are_alike
are_each_alike-returns-then-not-are_alike t c =
    no
    (one_apart (spelled c.args.a_names c.args.types.now) (spelled c.args.b_names c.args.types.now) c.args.a.now c.args.b.now c.fields.place c.index-a-place.result c.index-b-place.result c.fields-test.true
    (omega (arith, c.if-a-b.false)) c.index-a-place.is c.index-b-place.is (not_so c.are_alike.result c.if-not-are_alike.true c.are_alike.ensures))

pub are_each_alike-fields-preserved : goal.are_each_alike-fields-preserved
are_each_alike-fields-preserved t c =
    one_more (spelled c.args.a_names c.args.types.now) (spelled c.args.b_names c.args.types.now) c.args.a.now c.args.b.now c.fields.place c.index-a-place.result c.index-b-place.result c.fields-test.true
    (omega (arith, c.if-a-b.false)) c.index-a-place.is c.index-b-place.is (c.are_alike.ensures.0 c.if-not-are_alike.false) c.fields.invariant

pub are_levels_alike-returns-then-not-is_same_length : goal.are_levels_alike-returns-then-not-is_same_length
are_levels_alike-returns-then-not-is_same_length t c =
    no
    (arrays_apart c.args.types.now c.args.a_names c.args.b_names c.args.a.now c.args.b.now c.in-Array.element c.in-Array-b.other c.in-Array.at c.in-Array.len c.in-Array-b.at c.in-Array-b.other_len c.in-Array.is c.in-Array-b.is
    (not_so c.is_same_length.result c.if-not-is_same_length.true c.is_same_length.ensures))

pub are_levels_alike-returns-then-not-is_same_packed : goal.are_levels_alike-returns-then-not-is_same_packed
are_levels_alike-returns-then-not-is_same_packed t c =
    no
    (structs_apart c.args.types.now c.args.a_names c.args.b_names c.args.a.now c.args.b.now c.in-Struct.fields c.in-Struct-b.others c.in-Struct.at c.in-Struct-b.at c.in-Struct.packed c.in-Struct-b.other_packed c.in-Struct.is c.in-Struct-b.is
    (not_so c.is_same_packed.result c.if-not-is_same_packed.true c.is_same_packed.ensures))

pub are_levels_alike-returns-in-Int-b : goal.are_levels_alike-returns-in-Int-b
are_levels_alike-returns-in-Int-b t c =
    ints_alike c.args.types.now c.args.a_names c.args.b_names c.args.a.now c.args.b.now c.in-Int.width c.in-Int-b.other c.is_same_width.result c.in-Int.is c.in-Int-b.is c.is_same_width.ensures

pub are_levels_alike-returns-in_default : goal.are_levels_alike-returns-in_default
are_levels_alike-returns-in_default t c =
    no (int_alone c.args.types.now c.args.a_names c.args.b_names c.args.a.now c.args.b.now c.requires.a c.requires.b c.in-Int.width c.in-Int.is c.in_default.not-Int)

pub are_levels_alike-returns-in_default-b : goal.are_levels_alike-returns-in_default-b
are_levels_alike-returns-in_default-b t c = no (ptr_alone c.args.types.now c.args.a_names c.args.b_names c.args.a.now c.args.b.now c.requires.a c.requires.b c.in-Ptr.is c.in_default-b.not-Ptr)

pub are_levels_alike-returns-in_default-b-2 : goal.are_levels_alike-returns-in_default-b-2
are_levels_alike-returns-in_default-b-2 t c =
    no (array_alone c.args.types.now c.args.a_names c.args.b_names c.args.a.now c.args.b.now c.requires.a c.requires.b c.in-Array.at c.in-Array.len c.in-Array.element c.in-Array.is c.in_default-b-2.not-Array)

pub are_levels_alike-returns-in_default-b-3 : goal.are_levels_alike-returns-in_default-b-3
are_levels_alike-returns-in_default-b-3 t c =
    no (struct_alone c.args.types.now c.args.a_names c.args.b_names c.args.a.now c.args.b.now c.requires.a c.requires.b c.in-Struct.at c.in-Struct.fields c.in-Struct.packed c.in-Struct.is c.in_default-b-3.not-Struct)

pub are_levels_alike-returns-in_default-b-4 : goal.are_levels_alike-returns-in_default-b-4
are_levels_alike-returns-in_default-b-4 t c =
    no (named_alone c.args.types.now c.args.a_names c.args.b_names c.args.a.now c.args.b.now c.requires.a c.requires.b c.in-Named.name c.in-Named.at c.in-Named.is c.in_default-b-4.not-Named)

pub are_levels_alike-returns-else-not-is_same_length : goal.are_levels_alike-returns-else-not-is_same_length
are_levels_alike-returns-else-not-is_same_length t c =
    arrays_alike c.args.types.now c.args.a_names c.args.b_names c.args.a.now c.args.b.now c.in-Array.element c.in-Array-b.other c.in-Array.at c.in-Array.len c.in-Array-b.at c.in-Array-b.other_len c.in-Array.is c.in-Array-b.is
    c.get.result.now c.get-in-Array-b.result.now c.are_alike.result c.get.ensures c.get-in-Array-b.ensures (c.is_same_length.ensures.0 c.if-not-is_same_length.false) c.are_alike.ensures

pub are_levels_alike-returns-else-not-is_same_packed : goal.are_levels_alike-returns-else-not-is_same_packed
are_levels_alike-returns-else-not-is_same_packed t c =
    structs_alike c.args.types.now c.args.a_names c.args.b_names c.args.a.now c.args.b.now c.in-Struct.fields c.in-Struct-b.others c.in-Struct.at c.in-Struct-b.at c.in-Struct.packed c.in-Struct-b.other_packed c.in-Struct.is c.in-Struct-b.is
    c.as_slice.result.now c.as_slice-in-Struct-b.result.now c.are_each_alike.result c.as_slice.ensures c.as_slice-in-Struct-b.ensures (c.is_same_packed.ensures.0 c.if-not-is_same_packed.false) c.are_each_alike.ensures

pub are_levels_alike-returns-in-Named-b : goal.are_levels_alike-returns-in-Named-b
are_levels_alike-returns-in-Named-b t c =
    names_alike c.args.types.now c.args.a_names c.args.b_names c.args.a.now c.args.b.now c.in-Named.name c.in-Named-b.other c.in-Named.at c.in-Named-b.at c.is_same_name.result c.in-Named.is c.in-Named-b.is c.requires.a c.requires.b
    (by_texts c.as_slice-in-Named-b.result.now c.as_slice-in-Named-b-2.result.now c.in-Named.name c.in-Named-b.other c.is_same_name.result c.as_slice-in-Named-b.ensures c.as_slice-in-Named-b-2.ensures c.is_same_name.ensures)
