use Rattle.std.proofs.Common.{ℕ, suc, take}
use Rattle.tree_types.specs.Rooms.{AllAgree, AreRoomsWithin, names_within}
use Rattle.tree_types.proofs.rooms.next_rooms.Given as goal

abbrev pub invariant-each : goal.invariant-each
invariant-each l = (n : ℕ) → AreRoomsWithin n l.types l.rooms → AllAgree l.next.items (names_within (suc n) l.types (take l.definition-index l.types))
