use Rattle.std.proofs.Common.{ℕ}
use Rattle.tree_types.specs.Rooms.{AreRoomsWithin, IsSmall}
use Rattle.tree_types.proofs.Extents.{SoFar}
use Rattle.tree_types.proofs.rooms.+rooms.Given as goal

-- the fields so far have extents, and end there
abbrev pub invariant-end_of_fields-fields : goal.invariant-end_of_fields-fields
invariant-end_of_fields-fields l = record {
  small : IsSmall l.end;
  so_far : (n : ℕ) → AreRoomsWithin n l.types l.rooms → SoFar l.packed n l.types l.fields l.field-index l.end.size l.end.align;
}
