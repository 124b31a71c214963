use Rattle.std.proofs.Common.{cond, refl}
use Rattle.layout.specs.Layout.{aligned}
use Rattle.tree_types.proofs.Extents.{struct_there, no_fields, one_more_field}
use Rattle.tree_types.proofs.rooms.+rooms.Goals as goal

pub end_of_fields-returns-in-None : goal.end_of_fields-returns-in-None
end_of_fields-returns-in-None t c = λ n a. no_fields c.args.packed n c.args.types.now c.args.fields.now c.fields.field-index c.field-item.result c.fields-test.true c.field-item.is (c.in-None.ensures n a)

pub end_of_fields-fields-preserved : goal.end_of_fields-fields-preserved
end_of_fields-fields-preserved t c = record {
  small = c.behind_field-end.ensures.small;
  so_far = λ n a. let own = cond c.args.packed 1 c.in-Some.own.align in
      one_more_field c.args.packed n c.args.types.now c.args.fields.now c.fields.field-index c.field-item.result c.in-Some.own c.fields.end.size c.fields.end.align own (aligned c.fields.end.size own)
      c.behind_field-end.result.size c.behind_field-end.result.align c.fields-test.true c.field-item.is (c.in-Some.ensures n a) refl refl c.behind_field-end.ensures.size c.behind_field-end.ensures.align (c.fields.invariant.so_far n a);
}

pub room_of_type-returns-in-Struct : goal.room_of_type-returns-in-Struct
room_of_type-returns-in-Struct t c = λ n a.
    struct_there c.room_of_struct.result n c.args.types.now c.args.kind.now c.in-Struct.at c.in-Struct.fields c.as_slice.result.now c.in-Struct.packed c.in-Struct.is c.as_slice.ensures (c.room_of_struct.ensures n a)
