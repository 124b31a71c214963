use Rattle.std.proofs.Common.{arith}
use Rattle.await_core.proofs.OnSlots.{new_view, new_empty}
use Rattle.await_core.proofs.slots.Slots.new.Goals as goal

pub loop-slot-preserved : goal.loop-slot-preserved
loop-slot-preserved g c = record {
  lists = omega (arith, c.in_ok-push.ensures.len, c.push.new.self.ok.0, c.loop-slot.lists.ok.0, c.loop-slot.invariant.lists);
  tasks = omega (arith, c.in_ok-push-2.ensures.len, c.push-in-loop-slot.new.self.ok.0, c.loop-slot.tasks.ok.0, c.loop-slot.invariant.tasks);
  view = new_view c.loop-slot.lists.items c.push.new.self.items c.loop-slot.tasks.items c.push-in-loop-slot.new.self.items c.new.result c.loop-slot._slot c.loop-slot.invariant.lists c.loop-slot.invariant.tasks c.loop-slot.invariant.view c.in_ok-push.ensures.items c.in_ok-push-2.ensures.items;
  empty = new_empty c.loop-slot.tasks.items c.push-in-loop-slot.new.self.items c.loop-slot._slot c.loop-slot.invariant.empty c.in_ok-push-2.ensures.items;
}
