use Rattle.std.proofs.Common.{◌≡◌, ◌+◌, ◌-◌, ◌∙◌, arith}
use Rattle.await_core.proofs.OnSlots.{before_turn, before_length, length_set}
use Rattle.await_core.proofs.slots.add_before.Goals as goal

pub put_before-requires : goal.put_before-requires
put_before-requires g c =
    let i = c.loop-at in
    let down : i.at ≡ i.at - 1 + 1 = omega (arith, c.loop-at-test.true) in
    let e = before_length i.lists.items c.take_list-list.new.lists.items (i.at - 1) i.at c.take_list-list.result down c.take_list-list.ensures.list c.take_list-list.ensures.after in
    omega (arith, e, i.invariant.room, c.requires.room)

pub loop-at-preserved : goal.loop-at-preserved
loop-at-preserved g c =
    let i = c.loop-at in
    let t = c.take_list-list in
    let down : i.at ≡ i.at - 1 + 1 = omega (arith, c.loop-at-test.true) in
    let e = before_length i.lists.items t.new.lists.items (i.at - 1) i.at t.result down t.ensures.list t.ensures.after in
    record {
      leaves = before_turn i.lists.items t.new.lists.items (i.at - 1) i.at t.result i.load.leaves c.put_before.new.self.leaves _ down t.ensures.list t.ensures.after c.put_before.ensures.leaves i.invariant.leaves;
      tasks = c.put_before.ensures.tasks ∙ i.invariant.tasks;
      room = omega (arith, e, i.invariant.room, c.put_before.ensures.room);
      within = rw (t.ensures.after, length_set i.lists.items (i.at - 1) _) (omega (arith, i.invariant.within));
    }
