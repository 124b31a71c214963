-- What takes and refusals make of a board.
use Rattle.std.proofs.Common.{◌≡◌, ◌≢◌, ℕ, zero, suc, ◌+◌, ◌-◌, ◌<◌, ◌≤◌, List, [], ◌∷◌, ◌++◌, length, slice_get, Option, None, Some, refl, sym, ap, ◌∙◌, subst, arith}
use Rattle.std.specs.Prelude.{IsNone}
use Rattle.std.proofs.lemmas.Bool.{false≢true}
use Rattle.await_core.specs.declared.record.Home.{Home}
use Rattle.await_core.specs.declared.record.Record.{Record}
use Rattle.await_core.specs.declared.record.Stage.{Stage}
use Rattle.await_core.specs.declared.record.Stage.TheVariants.{Open, Out, Refused, Over}
use Rattle.await_core.specs.declared.record.Work.TheVariants.{Expand}
use Rattle.await_core.specs.declared.evaluation.Evaluation.{Evaluation}
use Rattle.await_core.specs.Boards.{set_stage, slots_of, AreInOrder, HomesBelow, is_out, leaves_held, IsBranched, IsSound, first_task}
use Rattle.await_core.specs.Events.{first_refused, branches}
use Rattle.await_core.specs.declared.record.Work.{Work}
use Rattle.await_core.specs.Slots.{capped}
use Rattle.await_core.specs.Opening.{task_in_place}
use Rattle.await_core.specs.Steps.{HasRoom}
use Rattle.await_core.proofs.OnRecords.{some_is, OutRecord, record_within, homes-set_stage, home_below, get_set, get_other}
use Rattle.await_core.proofs.OnSound.{order_handed, outs_handed, outs_less, held_out, some_out}
use Rattle.await_core.proofs.OnAwaited.{awaited_set, idle_out}
use Rattle.await_core.proofs.OnPosts.{first_some}

pub none_is : {A : Type 0} (o : Option A) → IsNone o → o ≡ None
none_is None h = refl
none_is (Some x) h = absurd (false≢true (sym h))

module _ (N L R : Type 0) where
  length-branches : (ticket place : ℕ) (nodes : List N) → length (branches {N = N} {L = L} {R = R} ticket place nodes) ≡ length nodes
  length-branches ticket place [] = refl
  length-branches ticket place (n ∷ nodes) = ap suc (length-branches ticket (place + 1) nodes)

module _ {N L R : Type 0} where
  pub sound_started : (root : N) → IsSound {N = N} {L = L} {R = R} (first_task root ∷ []) 0 0 None None
  sound_started root = record {
    order = λ none. (refl, refl);
    homes = (tt, tt);
    outs = refl;
    awaited = record {
      some = λ t r e b. absurd (no_slots t r e b);
      slots = λ t p r e n. absurd (no_empty t p r e n);
      root = λ e. record { ticket = 0; task = first_task root; at = refl; is_home = refl; unfinished = tt };
    };
  }
    where
      no_slots : (t : ℕ) (r : Record N L R) → slice_get (first_task root ∷ []) t ≡ Some r → IsBranched r.stage → ⊥
      no_slots zero r e b = subst (λ (x : Record N L R). IsBranched x.stage) (sym (some_is e)) b
      no_slots (suc t) r e b = absurd (cc)

      no_empty : (t p : ℕ) (r : Record N L R) → slice_get (first_task root ∷ []) t ≡ Some r → slice_get (slots_of r.stage) p ≡ Some None → ⊥
      no_empty zero p r e n =
          let f : slice_get (slots_of (first_task {N = N} {L = L} {R = R} root).stage) p ≡ Some None = subst (λ (x : Record N L R). slice_get (slots_of x.stage) p ≡ Some None) (sym (some_is e)) n in
          absurd (cc)
      no_empty (suc t) p r e n = absurd (cc)

  pub sound_handed : (rs : List (Record N L R)) (h out : ℕ) (refused : Option ℕ) (v : Option (Evaluation L)) → IsSound rs h out refused v → refused ≡ None → h < length rs → IsSound (set_stage rs h Out) (h + 1) (out + 1) refused v
  sound_handed rs h out refused v i none lt =
      let r = record_within rs h lt in
      record {
        order = λ e. order_handed h rs (i.order none) lt;
        homes = homes-set_stage 0 rs h Out i.homes;
        outs = omega (arith, i.outs, outs_handed rs h (i.order none) lt);
        awaited = awaited_set rs v h r.0 Out r.1 tt (λ b. b) i.awaited;
      }

  pub held_handed : (rs : List (Record N L R)) (h : ℕ) → h < length rs → leaves_held (set_stage rs h Out) ≤ leaves_held rs
  held_handed rs h lt = let r = record_within rs h lt in held_out rs h r.0 Out r.1 refl

  pub sound_refused : (rs : List (Record N L R)) (h out : ℕ) (refused : Option ℕ) (v : Option (Evaluation L)) (t : ℕ) → IsSound rs h out refused v → OutRecord rs t → IsSound (set_stage rs t Refused) h (out - 1) (first_refused refused t) v
  sound_refused rs h out refused v t i o = record {
    order = λ none. absurd (first_some refused t none);
    homes = homes-set_stage 0 rs t Refused i.homes;
    outs = omega (arith, i.outs, outs_less rs t o.task Refused o.at (ap is_out o.is_out) refl);
    awaited = awaited_set rs v t o.task Refused o.at tt (λ b. b) i.awaited;
  }

  pub held_refused : (rs : List (Record N L R)) (t : ℕ) → OutRecord rs t → leaves_held (set_stage rs t Refused) ≤ leaves_held rs
  held_refused rs t o = held_out rs t o.task Refused o.at refl

  pub some_is_out : (rs : List (Record N L R)) (h out : ℕ) (refused : Option ℕ) (v : Option (Evaluation L)) (t : ℕ) → IsSound rs h out refused v → OutRecord rs t → 0 < out
  some_is_out rs h out refused v t i o = omega (arith, i.outs, some_out rs t o.task o.at o.is_out)

  pub idle_taken : (rs : List (Record N L R)) (h out : ℕ) (refused : Option ℕ) (v : Option (Evaluation L)) → IsSound rs h out refused v → refused ≡ None → h ≡ length rs → v ≡ None → 0 < out
  idle_taken rs h out refused v i none all e =
      let order : AreInOrder (length rs) rs = subst (λ (k : ℕ). AreInOrder k rs) all (i.order none) in
      omega (arith, i.outs, idle_out rs v order i.homes i.awaited e)

  pub branches-last : (ticket place : ℕ) (nodes : List N) (node : N)
      → branches {N = N} {L = L} {R = R} ticket place (nodes ++ node ∷ [])
      ≡ branches ticket place nodes ++ record { work = Expand node; home = Some (record { ticket = ticket; place = place + length nodes }); before = 0; stage = Open (Expand node) } ∷ []
  branches-last ticket place [] node =
      let e : place ≡ place + 0 = omega arith in
      ap (λ (p : ℕ). record { work = Expand node; home = Some (record { ticket = ticket; place = p }); before = 0; stage = Open (Expand node) } ∷ []) e
  branches-last ticket place (n ∷ nodes) node =
      let e : place + 1 + length nodes ≡ place + suc (length nodes) = omega arith in
      let head : Record N L R = record { work = Expand n; home = Some (record { ticket = ticket; place = place }); before = 0; stage = Open (Expand n) } in
      ap (λ rs. head ∷ rs) (branches-last ticket (place + 1) nodes node
      ∙ ap (λ (p : ℕ). branches ticket (place + 1) nodes ++ record { work = Expand node; home = Some (record { ticket = ticket; place = p }); before = 0; stage = Open (Expand node) } ∷ []) e)

  -- one more task for the next node
  pub branch_pushed : (ticket : ℕ) (nodes : List N) (node : N) (work kept : Work N L R) (place len : ℕ) (old new : List (Record N L R))
      → old ≡ branches ticket 0 nodes → work ≡ Expand node → kept ≡ Expand node → place ≡ len → len ≡ length old
      → new ≡ old ++ record { work = work; home = Some (record { ticket = ticket; place = place }); before = 0; stage = Open kept } ∷ []
      → new ≡ branches ticket 0 (nodes ++ node ∷ [])
  branch_pushed ticket nodes node work kept place len old new e w k p l n =
      let len_is : length old ≡ length nodes = ap length e ∙ length-branches N L R ticket 0 nodes in
      let place_is : place ≡ 0 + length nodes = omega (arith, p, l, len_is) in
      rw (n, w, k, e, place_is) (sym (branches-last ticket 0 nodes node))

  -- the room is there once the task is over
  pub room_over : (rs : List (Record N L R)) (t room : ℕ) → OutRecord rs t → HomesBelow 0 rs → HasRoom rs t room → HasRoom (set_stage rs t Over) t room
  room_over rs t room o low has k =
      let here : slice_get (set_stage rs t Over) t ≡ Some _ = get_set rs t o.task Over o.at in
      let is_home : o.task.home ≡ Some k.home = ap (λ (x : Record N L R). x.home) (some_is (sym here ∙ k.at)) ∙ k.is_home in
      let lt = home_below 0 rs t o.task k.home low o.at is_home in
      let ne : k.home.ticket ≢ t = omega (arith, lt) in
      let le = has (record { task = o.task; at = o.at; home = k.home; is_home = is_home; above = k.above; there = sym (get_other rs t k.home.ticket Over ne) ∙ k.there; empty = k.empty; worth = k.worth; full = k.full }) in
      let held = held_out rs t o.task Over o.at refl in
      omega (arith, le, held)

  -- a task in the place of another
  pub placed : (r : Record N L R) (work : Work N L R) (home : Option Home) (total tasks : ℕ) (s s' : Stage N L R) → home ≡ r.home → total ≡ capped (r.before + 1 + tasks) → s ≡ s'
      → record { work = work; home = home; before = total; stage = s } ≡ task_in_place r work tasks s'
  placed r work home total tasks s s' e f g = rw (e, f, g) refl
