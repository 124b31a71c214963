use Rattle.std.proofs.Common.{take}
use Rattle.tree_types.specs.Rooms.{AllAgree, names_within}
use Rattle.tree_types.proofs.rooms.no_rooms.Given as goal

abbrev pub invariant-each : goal.invariant-each
invariant-each l = AllAgree l.rooms.items (names_within 0 l.types (take l.definition-index l.types))
