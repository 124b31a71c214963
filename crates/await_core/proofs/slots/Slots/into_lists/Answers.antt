use Rattle.std.proofs.Common.{sym, ◌∙◌}
use Rattle.await_core.proofs.OnSlots.{full_lists, view_tasks}
use Rattle.await_core.proofs.slots.Slots.into_lists.Goals as goal

pub returns-clause-lists : goal.returns-clause-lists
returns-clause-lists g c =
    let s = c.self.inside in
    rw (← c.self.view_is) (c.from_vec.ensures ∙ sym (full_lists s.lists.items s.tasks.items c.self.invariant.0 (rw (← c.self.view_is) at c.requires)))

pub returns-clause-tasks : goal.returns-clause-tasks
returns-clause-tasks g c =
    let s = c.self.inside in
    rw (← c.self.view_is, c.sum_of-tasks.ensures, c.as_slice.ensures.value, view_tasks s.lists.items s.tasks.items c.self.invariant.0)
