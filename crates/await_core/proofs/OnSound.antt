-- What holds of every board: the order of its tasks, and that each empty slot is awaited.
use Rattle.std.proofs.Common.{◌≡◌, ℕ, zero, suc, ◌+◌, ◌<◌, ◌≤◌, Bool, true, false, List, [], ◌∷◌, ◌++◌, length, slice_get, Option, None, Some, refl, sym, ap, ◌∙◌, subst, add-one, length-append, arith}
use Rattle.std.proofs.Math.ListN.{set}
use Rattle.std.specs.Prelude.{if◌then◌else◌}
use Rattle.await_core.specs.declared.record.Record.{Record}
use Rattle.await_core.specs.declared.record.Resumption.{Resumption}
use Rattle.await_core.specs.declared.record.Stage.{Stage}
use Rattle.await_core.specs.declared.record.Stage.TheVariants.{Open, Out, Refused, Forked, Waiting, Over}
use Rattle.await_core.specs.declared.record.Work.{Work}
use Rattle.await_core.specs.declared.evaluation.Evaluation.{Evaluation}
use Rattle.await_core.specs.Meaning.{joined}
use Rattle.await_core.specs.Slots.{lists_in, held_in}
use Rattle.await_core.specs.Boards.{set_stage, slots_of, IsOpen, IsBegun, AreInOrder, HomesBelow, is_out, out_count, leaves_held, IsBranched}
use Rattle.await_core.specs.Rising.{with_slots, Rises, at_root, astray, filled, joins, resumes}
use Rattle.await_core.proofs.OnRecords.{some_is, record_within, homes-set_stage, length-set_stage, held_set}

-- the leaves of slots
held_one : {L : Type 0} (slots : List (Option (Evaluation L))) (p : ℕ) (e : Evaluation L) → slice_get slots p ≡ Some None → held_in (set slots p (Some e)) ≡ held_in slots + length e.leaves
held_one [] p e at = absurd (cc)
held_one (None ∷ slots) zero e at = omega arith
held_one (Some x ∷ slots) zero e at = absurd (cc)
held_one (None ∷ slots) (suc p) e at = held_one slots p e at
held_one (Some x ∷ slots) (suc p) e at = omega (arith, held_one slots p e at)

length_joined : {L : Type 0} (slots : List (Option (Evaluation L))) → length (joined (lists_in slots)) ≡ held_in slots
length_joined [] = refl
length_joined (None ∷ slots) = length_joined slots
length_joined (Some x ∷ slots) = omega (arith, length_joined slots, length-append x.leaves (joined (lists_in slots)))

module _ {N L R : Type 0} where
  open_not_begun : (w : Work N L R) (s : Stage N L R) → IsOpen w s → IsBegun s → ⊥
  open_not_begun w (Open k) o b = b
  open_not_begun w Out o b = o
  open_not_begun w Refused o b = o
  open_not_begun w (Forked s) o b = o
  open_not_begun w (Waiting s r) o b = o
  open_not_begun w Over o b = o

  pub order_set : (h : ℕ) (rs : List (Record N L R)) (t : ℕ) (r : Record N L R) (s : Stage N L R) → AreInOrder h rs → slice_get rs t ≡ Some r → IsBegun r.stage → IsBegun s → AreInOrder h (set_stage rs t s)
  order_set h [] t r s o e b b' = o
  order_set zero (q ∷ rs) zero r s o e b b' =
      let f : q ≡ r = some_is e in
      absurd (open_not_begun q.work q.stage o.0 (subst (λ (x : Record N L R). IsBegun x.stage) (sym f) b))
  order_set zero (q ∷ rs) (suc t) r s o e b b' = (o.0, order_set zero rs t r s o.1 e b b')
  order_set (suc h) (q ∷ rs) zero r s o e b b' = (b', o.1)
  order_set (suc h) (q ∷ rs) (suc t) r s o e b b' = (o.0, order_set h rs t r s o.1 e b b')

  pub order_handed : (h : ℕ) (rs : List (Record N L R)) → AreInOrder h rs → h < length rs → AreInOrder (h + 1) (set_stage rs h Out)
  order_handed h rs o lt = rw add-one (handed h rs o lt)
    where
      handed : (h : ℕ) (rs : List (Record N L R)) → AreInOrder h rs → h < length rs → AreInOrder (suc h) (set_stage rs h Out)
      handed h [] o lt = absurd (omega (arith, lt))
      handed zero (r ∷ rs) o lt = (tt, o.1)
      handed (suc h) (r ∷ rs) o lt = (o.0, handed h rs o.1 (omega (arith, lt)))

  pub order_append : (h : ℕ) (rs cs : List (Record N L R)) → AreInOrder h rs → AreInOrder zero cs → AreInOrder h (rs ++ cs)
  order_append h [] cs o p = let q : h ≡ zero = o in subst (λ (k : ℕ). AreInOrder k cs) (sym q) p
  order_append zero (r ∷ rs) cs o p = (o.0, order_append zero rs cs o.1 p)
  order_append (suc h) (r ∷ rs) cs o p = (o.0, order_append h rs cs o.1 p)

  pub open_at : (h : ℕ) (rs : List (Record N L R)) (r : Record N L R) → AreInOrder h rs → slice_get rs h ≡ Some r → IsOpen r.work r.stage
  open_at h [] r o e = absurd (cc)
  open_at zero (q ∷ rs) r o e = subst (λ (x : Record N L R). IsOpen x.work x.stage) (some_is e) o.0
  open_at (suc h) (q ∷ rs) r o e = open_at h rs r o.1 e

  pub order_le : (h : ℕ) (rs : List (Record N L R)) → AreInOrder h rs → h ≤ length rs
  order_le h [] o = omega (arith, o)
  order_le zero (r ∷ rs) o = omega arith
  order_le (suc h) (r ∷ rs) o = omega (arith, order_le h rs o.1)

  pub begun_at : (h : ℕ) (rs : List (Record N L R)) (u : ℕ) (r : Record N L R) → AreInOrder h rs → slice_get rs u ≡ Some r → u < h → IsBegun r.stage
  begun_at h [] u r o e lt = absurd (cc)
  begun_at zero (q ∷ rs) u r o e lt = absurd (omega (arith, lt))
  begun_at (suc h) (q ∷ rs) zero r o e lt = subst (λ (x : Record N L R). IsBegun x.stage) (some_is e) o.0
  begun_at (suc h) (q ∷ rs) (suc u) r o e lt = begun_at h rs u r o.1 e (omega (arith, lt))

  -- an empty slot is that of a task that waits
  pub empty_branched : (s : Stage N L R) (place : ℕ) → slice_get (slots_of s) place ≡ Some None → IsBranched s
  empty_branched (Open k) place e = absurd (cc)
  empty_branched Out place e = absurd (cc)
  empty_branched Refused place e = absurd (cc)
  empty_branched (Forked slots) place e = tt
  empty_branched (Waiting slots rest) place e = tt
  empty_branched Over place e = absurd (cc)

  branched_begun : (s : Stage N L R) → IsBranched s → IsBegun s
  branched_begun (Open k) b = b
  branched_begun Out b = tt
  branched_begun Refused b = b
  branched_begun (Forked slots) b = tt
  branched_begun (Waiting slots rest) b = tt
  branched_begun Over b = tt

  branched_not_out : (s : Stage N L R) → IsBranched s → is_out s ≡ false
  branched_not_out (Open k) b = refl
  branched_not_out Out b = elim b [ ]
  branched_not_out Refused b = refl
  branched_not_out (Forked slots) b = refl
  branched_not_out (Waiting slots rest) b = refl
  branched_not_out Over b = refl

  pub with_branched : (s : Stage N L R) (slots : List (Option (Evaluation L))) → IsBranched s → IsBranched (with_slots s slots)
  with_branched (Open k) slots b = b
  with_branched Out slots b = b
  with_branched Refused slots b = b
  with_branched (Forked old) slots b = tt
  with_branched (Waiting old rest) slots b = tt
  with_branched Over slots b = b

  pub with_slots_of : (s : Stage N L R) (slots : List (Option (Evaluation L))) → IsBranched s → slots_of (with_slots s slots) ≡ slots
  with_slots_of (Open k) slots b = elim b [ ]
  with_slots_of Out slots b = elim b [ ]
  with_slots_of Refused slots b = elim b [ ]
  with_slots_of (Forked old) slots b = refl
  with_slots_of (Waiting old rest) slots b = refl
  with_slots_of Over slots b = elim b [ ]

  pub forked_branched : (s : Stage N L R) (slots : List (Option (Evaluation L))) → s ≡ Forked slots → IsBranched s
  forked_branched s slots e = rw e tt

  pub waiting_branched : (s : Stage N L R) (slots : List (Option (Evaluation L))) (rest : R) → s ≡ Waiting slots rest → IsBranched s
  waiting_branched s slots rest e = rw e tt

  pub outs_same : (rs : List (Record N L R)) (t : ℕ) (r : Record N L R) (s : Stage N L R) → slice_get rs t ≡ Some r → is_out s ≡ is_out r.stage → out_count (set_stage rs t s) ≡ out_count rs
  outs_same [] t r s e f = refl
  outs_same (q ∷ rs) zero r s e f =
      let g : is_out s ≡ is_out q.stage = f ∙ ap (λ (x : Record N L R). is_out x.stage) (sym (some_is e)) in
      ap (λ (x : Bool). (if x then 1 else 0) + out_count rs) g
  outs_same (q ∷ rs) (suc t) r s e f = ap (λ (n : ℕ). (if is_out q.stage then 1 else 0) + n) (outs_same rs t r s e f)

  pub outs_less : (rs : List (Record N L R)) (t : ℕ) (r : Record N L R) (s : Stage N L R) → slice_get rs t ≡ Some r → is_out r.stage ≡ true → is_out s ≡ false → out_count (set_stage rs t s) + 1 ≡ out_count rs
  outs_less [] t r s e f g = absurd (cc)
  outs_less (q ∷ rs) zero r s e f g =
      let h : is_out q.stage ≡ true = ap (λ (x : Record N L R). is_out x.stage) (some_is e) ∙ f in
      rw (h, g) (omega arith)
  outs_less (q ∷ rs) (suc t) r s e f g = omega (arith, outs_less rs t r s e f g)

  pub outs_more : (rs : List (Record N L R)) (t : ℕ) (r : Record N L R) (s : Stage N L R) → slice_get rs t ≡ Some r → is_out r.stage ≡ false → is_out s ≡ true → out_count (set_stage rs t s) ≡ out_count rs + 1
  outs_more [] t r s e f g = absurd (cc)
  outs_more (q ∷ rs) zero r s e f g =
      let h : is_out q.stage ≡ false = ap (λ (x : Record N L R). is_out x.stage) (some_is e) ∙ f in
      rw (h, g) (omega arith)
  outs_more (q ∷ rs) (suc t) r s e f g = omega (arith, outs_more rs t r s e f g)

  pub outs-append : (rs cs : List (Record N L R)) → out_count (rs ++ cs) ≡ out_count rs + out_count cs
  outs-append [] cs = omega arith
  outs-append (r ∷ rs) cs = let e = outs-append rs cs in omega (arith, e)

  pub held-append : (rs cs : List (Record N L R)) → leaves_held (rs ++ cs) ≡ leaves_held rs + leaves_held cs
  held-append [] cs = omega arith
  held-append (r ∷ rs) cs = let e = held-append rs cs in omega (arith, e)

  pub outs_within : (rs : List (Record N L R)) → out_count rs ≤ length rs
  outs_within [] = omega arith
  outs_within (r ∷ rs) = let e = outs_within rs in out_step (is_out r.stage) e
    where
      out_step : (b : Bool) → out_count rs ≤ length rs → (if b then 1 else 0) + out_count rs ≤ suc (length rs)
      out_step true h = omega (arith, h)
      out_step false h = omega (arith, h)

  pub some_out : (rs : List (Record N L R)) (t : ℕ) (r : Record N L R) → slice_get rs t ≡ Some r → r.stage ≡ Out → 0 < out_count rs
  some_out rs t r e f = omega (arith, outs_less rs t r Over e (ap is_out f) refl)

  pub homes-append : (k : ℕ) (rs cs : List (Record N L R)) → HomesBelow k rs → HomesBelow (k + length rs) cs → HomesBelow k (rs ++ cs)
  homes-append k [] cs h p = let e : k + 0 ≡ k = omega arith in rw e at p
  homes-append k (r ∷ rs) cs h p =
      let e : k + suc (length rs) ≡ k + 1 + length rs = omega arith in
      (h.0, homes-append (k + 1) rs cs h.1 (rw e at p))

  pub rises_order : {rs rs' : List (Record N L R)} {v v' : Option (Evaluation L)} {t : ℕ} {e : Evaluation L} {made : Option (Resumption L R)} (h : ℕ)
      → Rises rs v t e rs' v' made → AreInOrder h rs → AreInOrder h rs'
  rises_order h (at_root x y) o = o
  rises_order h (astray x y z n) o = o
  rises_order h (filled {rs = rs} {q = q} {home = home} x y z n f) o =
      let b = empty_branched q.stage home.place n in
      order_set h rs home.ticket q _ o z (branched_begun q.stage b) (branched_begun _ (with_branched q.stage _ b))
  rises_order h (joins {rs = rs} {q = q} {home = home} {slots = slots} x y z s n f up) o =
      rises_order h up (order_set h rs home.ticket q Over o z (branched_begun q.stage (forked_branched q.stage slots s)) tt)
  rises_order h (resumes {rs = rs} {q = q} {home = home} {slots = slots} {rest = rest} x y z s n f) o =
      order_set h rs home.ticket q Over o z (branched_begun q.stage (waiting_branched q.stage slots rest s)) tt

  pub rises_homes : {rs rs' : List (Record N L R)} {v v' : Option (Evaluation L)} {t : ℕ} {e : Evaluation L} {made : Option (Resumption L R)}
      → Rises rs v t e rs' v' made → HomesBelow 0 rs → HomesBelow 0 rs'
  rises_homes (at_root x y) o = o
  rises_homes (astray x y z n) o = o
  rises_homes (filled {rs = rs} {home = home} x y z n f) o = homes-set_stage 0 rs home.ticket _ o
  rises_homes (joins {rs = rs} {home = home} x y z s n f up) o = rises_homes up (homes-set_stage 0 rs home.ticket Over o)
  rises_homes (resumes {rs = rs} {home = home} x y z s n f) o = homes-set_stage 0 rs home.ticket Over o

  pub rises_length : {rs rs' : List (Record N L R)} {v v' : Option (Evaluation L)} {t : ℕ} {e : Evaluation L} {made : Option (Resumption L R)}
      → Rises rs v t e rs' v' made → length rs' ≡ length rs
  rises_length (at_root x y) = refl
  rises_length (astray x y z n) = refl
  rises_length (filled {rs = rs} {home = home} x y z n f) = length-set_stage rs home.ticket _
  rises_length (joins {rs = rs} {home = home} x y z s n f up) = rises_length up ∙ length-set_stage rs home.ticket Over
  rises_length (resumes {rs = rs} {home = home} x y z s n f) = length-set_stage rs home.ticket Over

  pub rises_outs : {rs rs' : List (Record N L R)} {v v' : Option (Evaluation L)} {t : ℕ} {e : Evaluation L} {made : Option (Resumption L R)}
      → Rises rs v t e rs' v' made → out_count rs' ≡ out_count rs
  rises_outs (at_root x y) = refl
  rises_outs (astray x y z n) = refl
  rises_outs (filled {rs = rs} {q = q} {home = home} x y z n f) =
      let b = empty_branched q.stage home.place n in
      outs_same rs home.ticket q _ z (branched_not_out _ (with_branched q.stage _ b) ∙ sym (branched_not_out q.stage b))
  rises_outs (joins {rs = rs} {q = q} {home = home} {slots = slots} x y z s n f up) =
      rises_outs up ∙ outs_same rs home.ticket q Over z (sym (branched_not_out q.stage (forked_branched q.stage slots s)))
  rises_outs (resumes {rs = rs} {q = q} {home = home} {slots = slots} {rest = rest} x y z s n f) =
      outs_same rs home.ticket q Over z (sym (branched_not_out q.stage (waiting_branched q.stage slots rest s)))

  pub rises_held : {rs rs' : List (Record N L R)} {v v' : Option (Evaluation L)} {t : ℕ} {e : Evaluation L} {made : Option (Resumption L R)}
      → Rises rs v t e rs' v' made → leaves_held rs' ≤ leaves_held rs + length e.leaves
  rises_held (at_root x y) = omega arith
  rises_held (astray x y z n) = omega arith
  rises_held (filled {rs = rs} {worth = e} {q = q} {home = home} x y z n f) =
      let b = empty_branched q.stage home.place n in
      let held = held_set rs home.ticket q (with_slots q.stage (set (slots_of q.stage) home.place (Some e))) z in
      let same : held_in (slots_of (with_slots q.stage (set (slots_of q.stage) home.place (Some e)))) ≡ held_in (set (slots_of q.stage) home.place (Some e)) = ap held_in (with_slots_of q.stage _ b) in
      omega (arith, held, same, held_one (slots_of q.stage) home.place e n)
  rises_held (joins {rs = rs} {worth = e} {q = q} {home = home} {slots = slots} x y z s n f up) =
      let held = held_set rs home.ticket q Over z in
      let here : held_in (slots_of q.stage) ≡ held_in slots = ap (λ (g : Stage N L R). held_in (slots_of g)) s in
      omega (arith, rises_held up, held, here, length_joined (set slots home.place (Some e)), held_one slots home.place e n)
  rises_held (resumes {rs = rs} {worth = e} {q = q} {home = home} x y z s n f) =
      let held = held_set rs home.ticket q Over z in
      omega (arith, held)

  open_not_out : (w : Work N L R) (s : Stage N L R) → IsOpen w s → is_out s ≡ false
  open_not_out w (Open k) o = refl
  open_not_out w Out o = elim o [ ]
  open_not_out w Refused o = refl
  open_not_out w (Forked s) o = refl
  open_not_out w (Waiting s r) o = refl
  open_not_out w Over o = refl

  open_no_leaves : (w : Work N L R) (s : Stage N L R) → IsOpen w s → held_in (slots_of s) ≡ 0
  open_no_leaves w (Open k) o = refl
  open_no_leaves w Out o = refl
  open_no_leaves w Refused o = refl
  open_no_leaves w (Forked s) o = elim o [ ]
  open_no_leaves w (Waiting s r) o = elim o [ ]
  open_no_leaves w Over o = refl

  -- one more task is out
  pub outs_handed : (rs : List (Record N L R)) (h : ℕ) → AreInOrder h rs → h < length rs → out_count (set_stage rs h Out) ≡ out_count rs + 1
  outs_handed rs h o lt =
      let r = record_within rs h lt in
      outs_more rs h r.0 Out r.1 (open_not_out r.0.work r.0.stage (open_at h rs r.0 o r.1)) refl

  pub outs_fit : (rs : List (Record N L R)) (h out : ℕ) → AreInOrder h rs → out ≡ out_count rs → h < length rs → out + 1 ≤ length rs
  outs_fit rs h out o e lt =
      let f = outs_within (set_stage rs h Out) in
      omega (arith, e, outs_handed rs h o lt, f, length-set_stage rs h Out)

  pub held_out : (rs : List (Record N L R)) (t : ℕ) (r : Record N L R) (s : Stage N L R) → slice_get rs t ≡ Some r → held_in (slots_of s) ≡ 0 → leaves_held (set_stage rs t s) ≤ leaves_held rs
  held_out rs t r s e z = omega (arith, held_set rs t r s e, z)
