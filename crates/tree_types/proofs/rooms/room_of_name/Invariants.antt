use Rattle.std.proofs.Common.{◌≡◌, drop}
use Rattle.ir_tree.specs.Layout as layout
use Rattle.tree_types.proofs.rooms.room_of_name.Given as goal

abbrev pub invariant-places : goal.invariant-places
invariant-places l = layout.kind_of l.types l.name ≡ layout.kind_of (drop l.place l.types) l.name
