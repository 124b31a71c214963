-- That the rooms of types are right is a fact that has one proof at most.
use Rattle.std.specs.Prelude.{List, [], ◌∷◌, Option, Some, None, length}
use Rattle.std.specs.Coded.{×_prop, Unit-prop}
use denote.Struct.Props as logic
use Rattle.layout.specs.Layout.{Extent}
use Rattle.ir_tree.specs.declared.layouts.Room.{Room}
use Rattle.ir_tree.specs.declared.module.TypeDefinition.{TypeDefinition}
use Rattle.ir_tree.specs.Extents.{Agrees}
use Rattle.tree_types.specs.Rooms.{AllAgree, AreRooms, names_within}

⊥-prop : IsProp ⊥
⊥-prop x y = absurd x

Agrees-prop : (r : Option Room) (e : Option Extent) → IsProp (Agrees r e)
Agrees-prop None None = Unit-prop
Agrees-prop None (Some e) = ⊥-prop
Agrees-prop (Some x) None = ⊥-prop
Agrees-prop (Some x) (Some e) = Prim.hlevel logic.props

AllAgree-prop : (rs : List (Option Room)) (es : List (Option Extent)) → IsProp (AllAgree rs es)
AllAgree-prop [] [] = Unit-prop
AllAgree-prop [] (e ∷ es) = ⊥-prop
AllAgree-prop (r ∷ rs) [] = ⊥-prop
AllAgree-prop (r ∷ rs) (e ∷ es) = ×_prop (Agrees-prop r e) (AllAgree-prop rs es)

pub AreRooms-prop : (types : List TypeDefinition) (rooms : List (Option Room)) → IsProp (AreRooms types rooms)
AreRooms-prop types rooms = AllAgree-prop rooms (names_within (length types) types types)
