use Rattle.std.proofs.Common.{suc}
use Rattle.tree_types.proofs.Named.{rooms_more}
use Rattle.tree_types.proofs.rooms.next_rooms.Goals as goal

pub each-preserved : goal.each-preserved
each-preserved c = λ n a.
    rooms_more (suc n) c.args.types.now c.each.definition-index c.definition-item.result c.each.next.items c.push.new.self.items c.room_of_definition.result c.each-test.true c.definition-item.is
    c.in_ok-push.ensures.items (c.room_of_definition.ensures n a) (c.each.invariant n a)
