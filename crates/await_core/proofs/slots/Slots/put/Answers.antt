use Rattle.std.proofs.Common.{◌∙◌, sym, arith}
use Rattle.await_core.proofs.OnSlots.{some_left, place_within, length_set, length_numbers, empty_set, empty_number, view_set}
use Rattle.std.proofs.Common.{Some}
use Rattle.await_core.proofs.slots.Slots.put.Goals as goal

pub overflow_sub-self : goal.overflow_sub-self
overflow_sub-self g c =
    let s = c.self.inside in
    omega (arith, some_left s.lists.items s.tasks.items s.left c.args.place c.self.invariant.1 (rw (← c.self.view_is) at c.requires))

pub index_mut-requires : goal.index_mut-requires
index_mut-requires g c =
    let s = c.self.inside in
    omega (arith, s.lists.ok.0, (place_within s.lists.items s.tasks.items c.args.place (rw (← c.self.view_is) at c.requires)).0)

pub index_mut-requires-2 : goal.index_mut-requires-2
index_mut-requires-2 g c =
    let s = c.self.inside in
    omega (arith, s.tasks.ok.0, (place_within s.lists.items s.tasks.items c.args.place (rw (← c.self.view_is) at c.requires)).1)

pub invariant_of-self : goal.invariant_of-self
invariant_of-self g c =
    let s = c.self.inside in
    let one = empty_set s.tasks.items c.args.place c.args.worth.tasks (empty_number s.lists.items s.tasks.items c.args.place (rw (← c.self.view_is) at c.requires)) in (
      length_set s.lists.items c.args.place c.args.worth.leaves ∙ c.self.invariant.0 ∙ sym (length_numbers s.tasks.items c.args.place (Some c.args.worth.tasks)),
      omega (arith, one, c.self.invariant.1),
    )

pub returns : goal.returns
returns g c =
    let s = c.self.inside in
    rw (← c.self.view_is) (view_set s.lists.items s.tasks.items c.args.place c.args.worth.leaves c.args.worth.tasks)
