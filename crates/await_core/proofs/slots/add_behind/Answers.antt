use Rattle.std.proofs.Common.{◌∙◌, [], arith}
use Rattle.await_core.proofs.OnSlots.{behind_turn, behind_length, length_set, take_kept}
use Rattle.await_core.proofs.slots.add_behind.Goals as goal

pub put_behind-requires : goal.put_behind-requires
put_behind-requires g c =
    let i = c.loop-at in
    let e = behind_length i.lists.items c.take_list-list.new.lists.items i.at c.take_list-list.result c.take_list-list.ensures.list c.take_list-list.ensures.after in
    omega (arith, e, i.invariant.room, c.requires)

pub loop-at-preserved : goal.loop-at-preserved
loop-at-preserved g c =
    let i = c.loop-at in
    let t = c.take_list-list in
    let e = behind_length i.lists.items t.new.lists.items i.at t.result t.ensures.list t.ensures.after in
    record {
      leaves = behind_turn i.lists.items t.new.lists.items i.at t.result i.load.leaves c.put_behind.new.self.leaves _ t.ensures.list t.ensures.after c.put_behind.ensures.leaves i.invariant.leaves;
      tasks = c.put_behind.ensures.tasks ∙ i.invariant.tasks;
      room = omega (arith, e, i.invariant.room, c.put_behind.ensures.room);
      behind = omega (arith, i.invariant.behind);
      before = rw t.ensures.after (take_kept i.lists.items c.args.from i.at [] i.invariant.behind ∙ i.invariant.before);
      same = rw (t.ensures.after, length_set i.lists.items i.at []) i.invariant.same;
    }
