use Rattle.std.proofs.Common.{subst, length}
use Rattle.ir_tree.specs.Extents.{Agrees}
use Rattle.ir_tree.specs.Layout.{extent}
use Rattle.ir_tree.specs.declared.types.IrType.{IrType}
use Rattle.tree_types.proofs.Named.{offset_there}
use Rattle.tree_types.proofs.rooms.field_offset.Goals as goal

pub returns-in-Some : goal.returns-in-Some
returns-in-Some c =
    let n = length c.args.types.now in
    let a = c.requires.rooms in
    let own = subst (λ (t : IrType). Agrees c.room_of_type-own.result (extent c.args.types.now t)) c.index-fields-field.is (c.room_of_type-own.ensures n a) in
    offset_there c.args.packed (extent c.args.types.now) c.args.fields.now c.args.field c.index-fields-field.result c.requires.field c.place_of.result c.in-Some.field-0 c.end_of_fields-end.result c.room_of_type-own.result
    (c.in-Some.ensures n a) (c.end_of_fields-end.ensures n a) own c.place_of.ensures
