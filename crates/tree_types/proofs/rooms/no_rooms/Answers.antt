use Rattle.std.proofs.Common.{None}
use Rattle.tree_types.proofs.Named.{rooms_more, nothing_yet}
use Rattle.tree_types.proofs.rooms.no_rooms.Goals as goal

pub each-preserved : goal.each-preserved
each-preserved c =
    rooms_more 0 c.args.types.now c.each.definition-index c.definition-item.result c.each.rooms.items c.push.new.self.items None c.each-test.true c.definition-item.is
    c.in_ok-push.ensures.items (nothing_yet c.args.types.now c.definition-item.result.name.text) c.each.invariant
