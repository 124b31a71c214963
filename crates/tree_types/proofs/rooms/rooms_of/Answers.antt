use Rattle.std.proofs.Common.{◌∙◌, List, Option, sym, subst}
use Rattle.ir_tree.specs.declared.layouts.Room.{Room}
use Rattle.tree_types.specs.Rooms.{AreRooms, AreRoomsWithin}
use Rattle.tree_types.proofs.Named.{unchanged_last}
use Rattle.tree_types.proofs.rooms.rooms_of.Goals as goal

pub returns-then-are_same : goal.returns-then-are_same
returns-then-are_same c =
    let types = c.args.types.now in
    let same = sym c.as_slice-in-rounds.ensures.value ∙ (c.are_same.ensures c.if-are_same.true ∙ c.as_slice-in-rounds-2.ensures.value) in
    subst (λ (rs : List (Option Room)). AreRooms types rs) (sym c.from_vec.ensures)
    (unchanged_last types c.rounds.rooms.items c.in_ok-next.next.items c.rounds.place c.rounds-test.true same
    (λ m a. c.in_ok-next.ensures m (subst (λ (rs : List (Option Room)). AreRoomsWithin m types rs) (sym c.as_slice.ensures.value) a)) c.rounds.invariant)
