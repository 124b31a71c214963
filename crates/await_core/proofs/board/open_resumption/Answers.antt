use Rattle.std.proofs.Common.{◌≡◌, ℕ, length, slice_get, Some, inl, inr, ◌∷◌, [], ◌++◌, ◌∙◌, ap, refl}
use Rattle.await_core.specs.declared.record.Record.{Record}
use Rattle.await_core.specs.declared.record.Stage.TheVariants.{Open, Refused}
use Rattle.await_core.specs.Events.{first_refused}
use Rattle.await_core.proofs.OnTurns.{placed}
use Rattle.await_core.proofs.board.open_resumption.Goals as goal

pub returns-in-Ok : goal.returns-in-Ok
returns-in-Ok g c r at =
    let at1 : slice_get c.as_slice.result.now c.args.ticket ≡ Some r = rw c.as_slice.ensures.value at in
    let at2 : slice_get c.as_slice-2.result.now c.args.ticket ≡ Some r = rw c.as_slice-2.ensures.value at in
    let is = placed r c.args.work c.home_at-home.result c.after_at-before.result c.args.tasks (Open c.in-Ok.kept) (Open c.args.work) (c.home_at-home.ensures r at1) (c.after_at-before.ensures r at2) (ap Open c.in-Ok.ensures) in
    inl (c.push_within.ensures ∙ ap (λ (x : Record g.row.N.Denot g.row.L.Denot g.row.R.Denot). c.args.records.now.items ++ x ∷ []) is, refl)

pub returns-in-Err : goal.returns-in-Err
returns-in-Err g c r at =
    let at1 : slice_get c.as_slice.result.now c.args.ticket ≡ Some r = rw c.as_slice.ensures.value at in
    let at2 : slice_get c.as_slice-2.result.now c.args.ticket ≡ Some r = rw c.as_slice-2.ensures.value at in
    let is = placed r c.args.work c.home_at-home.result c.after_at-before.result c.args.tasks Refused Refused (c.home_at-home.ensures r at1) (c.after_at-before.ensures r at2) refl in
    let next : c.len-next.result ≡ length c.args.records.now.items = c.len-next.ensures ∙ c.args.records.now.ok.0 in
    inr (c.push_within-in-Err.ensures ∙ ap (λ (x : Record g.row.N.Denot g.row.L.Denot g.row.R.Denot). c.args.records.now.items ++ x ∷ []) is, c.first_of.ensures ∙ ap (λ (k : ℕ). first_refused c.args.refused k) next)
