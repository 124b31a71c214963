use Rattle.await_core.proofs.OnSlots.{empty_number, number_empty}
use Rattle.await_core.proofs.slots.Slots.is_empty_at.Goals as goal

pub returns : goal.returns
returns g c =
    let s = c.self.inside in
    rw (← c.self.view_is) (
      (λ yes. number_empty s.lists.items s.tasks.items c.args.place c.self.invariant.0 (rw c.as_slice.ensures.value at (c.lacks.ensures.0 yes))),
      (λ at. c.lacks.ensures.1 (rw c.as_slice.ensures.value (empty_number s.lists.items s.tasks.items c.args.place at))),
    )
