use Rattle.std.proofs.Common.{eq-eqb, eqb-true}
use Rattle.await_core.proofs.OnSlots.{one_left}
use Rattle.await_core.proofs.slots.Slots.fills.Goals as goal

pub returns : goal.returns
returns g c worth =
    let s = c.self.inside in
    let h = one_left s.lists.items s.tasks.items s.left c.args.place worth c.self.invariant.0 c.self.invariant.1 (rw (← c.self.view_is) at c.requires) in
    rw (← c.self.view_is) ((λ one. h.0 (eqb-true s.left 1 one)), (λ full. eq-eqb s.left 1 (h.1 full)))
