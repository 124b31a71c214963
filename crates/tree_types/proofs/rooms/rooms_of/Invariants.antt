use Rattle.tree_types.specs.Rooms.{AreRoomsWithin}
use Rattle.tree_types.proofs.rooms.rooms_of.Given as goal

abbrev pub invariant-rounds : goal.invariant-rounds
invariant-rounds l = AreRoomsWithin l.place l.types l.rooms.items
