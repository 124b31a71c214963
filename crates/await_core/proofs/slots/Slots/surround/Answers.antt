use Rattle.std.proofs.Common.{sym, refl, arith}
use Rattle.await_core.specs.Load.{worth_of}
use Rattle.await_core.proofs.OnSlots.{place_within, held_round, take_less, round, round_tasks}
use Rattle.await_core.proofs.slots.Slots.surround.Goals as goal

pub index_mut-requires : goal.index_mut-requires
index_mut-requires g c =
    let s = c.self.inside in
    omega (arith, s.tasks.ok.0, (place_within s.lists.items s.tasks.items c.args.place (rw (← c.self.view_is) at c.requires.empty)).1)

pub overflow_add-place : goal.overflow_add-place
overflow_add-place g c =
    let s = c.self.inside in
    omega (arith, s.tasks.ok.0, c.as_slice.type_inv.0, c.as_slice.ensures.len, (place_within s.lists.items s.tasks.items c.args.place (rw (← c.self.view_is) at c.requires.empty)).1)

pub add_behind-requires : goal.add_behind-requires
add_behind-requires g c =
    let s = c.self.inside in
    let held = held_round s.lists.items s.tasks.items c.args.place (worth_of c.args.load) c.self.invariant.0 (rw (← c.self.view_is) at c.requires.empty) (rw (← c.self.view_is) at c.requires.full) in
    omega (arith, held, rw (← c.self.view_is) at c.requires.room, c.count.ensures.room)

pub add_before-requires-clause-within : goal.add_before-requires-clause-within
add_before-requires-clause-within g c =
    let s = c.self.inside in
    omega (arith, c.add_behind.ensures.len, (place_within s.lists.items s.tasks.items c.args.place (rw (← c.self.view_is) at c.requires.empty)).0)

pub add_before-requires-clause-room : goal.add_before-requires-clause-room
add_before-requires-clause-room g c =
    let s = c.self.inside in
    let held = held_round s.lists.items s.tasks.items c.args.place (worth_of c.args.load) c.self.invariant.0 (rw (← c.self.view_is) at c.requires.empty) (rw (← c.self.view_is) at c.requires.full) in
    let same = take_less c.add_behind.new.lists.items s.lists.items c.args.place c.add_behind.ensures.before in
    rw same (omega (arith, held, rw (← c.self.view_is) at c.requires.room, c.count.ensures.room, c.add_behind.ensures.room))

pub returns-clause-leaves : goal.returns-clause-leaves
returns-clause-leaves g c =
    let s = c.self.inside in
    let same = take_less c.add_behind.new.lists.items s.lists.items c.args.place c.add_behind.ensures.before in
    let all = round s.lists.items s.tasks.items c.args.place (worth_of c.args.load) c.self.invariant.0 (rw (← c.self.view_is) at c.requires.empty) (rw (← c.self.view_is) at c.requires.full) in
    rw (← c.self.view_is, c.add_before.ensures.leaves, c.add_behind.ensures.leaves, c.count.ensures.leaves, same) (sym all)

pub returns-clause-tasks : goal.returns-clause-tasks
returns-clause-tasks g c =
    let s = c.self.inside in
    rw (← c.self.view_is, round_tasks s.lists.items s.tasks.items c.args.place (worth_of c.args.load) c.self.invariant.0, c.add_before.ensures.tasks, c.add_behind.ensures.tasks, c.count.ensures.tasks, c.sum_of.ensures, c.as_slice.ensures.value, c.tasks.ensures) refl

pub returns-clause-room : goal.returns-clause-room
returns-clause-room g c =
    let s = c.self.inside in
    let held = held_round s.lists.items s.tasks.items c.args.place (worth_of c.args.load) c.self.invariant.0 (rw (← c.self.view_is) at c.requires.empty) (rw (← c.self.view_is) at c.requires.full) in
    let same = take_less c.add_behind.new.lists.items s.lists.items c.args.place c.add_behind.ensures.before in
    let behind = c.add_before.ensures.room in
    rw (← c.self.view_is) (omega (arith, held, rw same at behind, c.count.ensures.room, c.add_behind.ensures.room))
