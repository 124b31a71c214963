use Rattle.std.proofs.Common.{◌≡◌, ◌+◌, ◌≤◌, ◌<◌, length, None, refl, sym, ◌∙◌, arith, rules}
use Rattle.std.specs.Prelude.{IsNone}
use Rattle.await_core.proofs.OnSound.{open_at, order_le, outs_fit}
use Rattle.await_core.proofs.OnTurns.{none_is, sound_handed, held_handed, idle_taken}
use Rattle.await_core.proofs.OnEvents.{stands_handed}
use Rattle.await_core.proofs.board.Board.take.Goals as goal

pub hand_out-work-requires-clause-open : goal.hand_out-work-requires-clause-open
hand_out-work-requires-clause-open g c r e =
    let none : c.self.inside.refused ≡ None = search rules in
    open_at c.self.inside.handed c.self.inside.records.items r (c.self.invariant.0.order none) e

pub overflow_add-self-then-ticket-len : goal.overflow_add-self-then-ticket-len
overflow_add-self-then-ticket-len g c =
    let none : c.self.inside.refused ≡ None = search rules in
    let fit : c.self.inside.out + 1 ≤ length c.self.inside.records.items = outs_fit c.self.inside.records.items c.self.inside.handed c.self.inside.out (c.self.invariant.0.order none) c.self.invariant.0.outs (omega (arith, c.self.inside.records.ok.0)) in
    omega (arith, fit, c.self.inside.records.ok.0, c.len.ensures, c.len.type_inv)

pub invariant_of-self : goal.invariant_of-self
invariant_of-self g c =
    let s = c.self.inside in
    let none : s.refused ≡ None = search rules in
    let lt : s.handed < length s.records.items = omega (arith, s.records.ok.0) in
    let held = held_handed s.records.items s.handed lt in
    rw c.hand_out-work.ensures.after (sound_handed s.records.items s.handed s.out s.refused s.value c.self.invariant.0 none lt, omega (arith, held, c.self.invariant.1))

pub returns-then-ticket-len-clause-stands : goal.returns-then-ticket-len-clause-stands
returns-then-ticket-len-clause-stands g c tree root stands =
    rw c.hand_out-work.ensures.after (stands_handed tree root _ (rw (← c.self.view_is) at stands))

pub returns-clause-answer : goal.returns-clause-answer
returns-clause-answer g c =
    let s = c.self.inside in
    let absent : IsNone s.value = sym c.is_some.ensures ∙ c.if-is_some.false in
    let all : s.handed ≡ length s.records.items = omega (arith, order_le s.handed s.records.items (c.self.invariant.0.order c.in_default.is), c.if-ticket-len.false, c.len.ensures, s.records.ok.0) in
    let taken : 0 < s.out = idle_taken s.records.items s.handed s.out s.refused s.value c.self.invariant.0 c.in_default.is all (none_is s.value absent) in
    rw (← c.self.view_is) (absent, c.in_default.is, all, c.self.invariant.0.outs, taken, refl)
