use Rattle.std.proofs.Common.{◌∙◌, ℕ, List, ap, sym, arith}
use Rattle.ir_tree.specs.Texts.{same}
use Rattle.tree_types.proofs.Named.{room_there, none_there, none_at_end}
use Rattle.tree_types.proofs.rooms.room_of_name.Goals as goal

pub returns-then-is_same : goal.returns-then-is_same
returns-then-is_same c = λ n a.
    room_there n c.args.types.now c.args.rooms.now c.places.place c.index-types-place.result c.args.name.now c.room_at.result c.places-test.true c.index-types-place.is
    (ap (λ (t : List ℕ). same t c.args.name.now) (sym c.as_slice.ensures) ∙ (sym c.is_same.ensures ∙ c.if-is_same.true)) c.room_at.ensures a

pub returns : goal.returns
returns c = λ n a. none_there n c.args.types.now c.args.name.now (none_at_end c.args.types.now c.args.name.now c.places.place (omega (arith, c.places-test.false)) c.places.invariant)
