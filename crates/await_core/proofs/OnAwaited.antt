-- Each empty slot is awaited.
use Rattle.std.proofs.Common.{◌≡◌, ◌≢◌, ℕ, zero, suc, ◌+◌, ◌<◌, ◌≤◌, ◌⊎◌, inl, inr, List, [], ◌∷◌, ◌++◌, length, slice_get, Option, None, Some, refl, sym, ap, ◌∙◌, subst, arith}
use Rattle.std.proofs.Math.ListN.{set}
use Rattle.await_core.specs.declared.record.Home.{Home}
use Rattle.await_core.specs.declared.record.Record.{Record}
use Rattle.await_core.specs.declared.record.Resumption.{Resumption}
use Rattle.await_core.specs.declared.record.Stage.{Stage}
use Rattle.await_core.specs.declared.record.Stage.TheVariants.{Open, Out, Refused, Forked, Waiting, Over}
use Rattle.await_core.specs.declared.evaluation.Evaluation.{Evaluation}
use Rattle.await_core.specs.Slots.{IsFull}
use Rattle.await_core.specs.Boards.{set_stage, slots_of, IsBegun, AreInOrder, HomesBelow, out_count, IsUnfinished, HasTask, IsBranched, IsAwaited}
use Rattle.await_core.specs.Rising.{with_slots, Rises, at_root, astray, filled, joins, resumes}
use Rattle.await_core.proofs.OnRecords.{some_is, get_set, get_other, within_record, home_below}
use Rattle.await_core.proofs.OnSound.{empty_branched, with_branched, with_slots_of, begun_at, some_out}

pub same_or_other : (a b : ℕ) → (a ≡ b) ⊎ (a ≢ b)
same_or_other zero zero = inl refl
same_or_other zero (suc b) = inr (λ e. cc)
same_or_other (suc a) zero = inr (λ e. cc)
same_or_other (suc a) (suc b) = elim (same_or_other a b) [ inl e ↦ inl (ap suc e) | inr ne ↦ inr (λ e. ne (omega (arith, e))) ]

-- in slots that aren't full one is empty
some_empty : {L : Type 0} (slots : List (Option (Evaluation L))) → (IsFull slots → ⊥) → (p : ℕ) × (slice_get slots p ≡ Some None)
some_empty [] f = absurd (f tt)
some_empty (None ∷ slots) f = (0, refl)
some_empty (Some e ∷ slots) f = let h = some_empty slots f in (suc h.0, h.1)

-- an empty slot after another was filled
still_empty : {L : Type 0} (slots : List (Option (Evaluation L))) (p q : ℕ) (e : Evaluation L) → slice_get (set slots p (Some e)) q ≡ Some None → (q ≢ p) × (slice_get slots q ≡ Some None)
still_empty [] p q e at = absurd (cc)
still_empty (x ∷ slots) zero zero e at = absurd (cc)
still_empty (x ∷ slots) zero (suc q) e at = ((λ f. cc), at)
still_empty (x ∷ slots) (suc p) zero e at = ((λ f. cc), at)
still_empty (x ∷ slots) (suc p) (suc q) e at = let h = still_empty slots p q e at in ((λ f. h.0 (omega (arith, f))), h.1)

module _ {N L R : Type 0} where
  pub set_inv : (rs : List (Record N L R)) (t u : ℕ) (s : Stage N L R) (r : Record N L R) → slice_get (set_stage rs t s) u ≡ Some r
      → ((u ≡ t) × (r.stage ≡ s)) ⊎ ((u ≢ t) × (slice_get rs u ≡ Some r))
  set_inv [] t u s r e = absurd (cc)
  set_inv (q ∷ rs) zero zero s r e = inl (refl, ap (λ (x : Record N L R). x.stage) (sym (some_is e)))
  set_inv (q ∷ rs) zero (suc u) s r e = inr ((λ f. cc), e)
  set_inv (q ∷ rs) (suc t) zero s r e = inr ((λ f. cc), e)
  set_inv (q ∷ rs) (suc t) (suc u) s r e = elim (set_inv rs t u s r e) [ inl w ↦ inl (ap suc w.0, w.1) | inr w ↦ inr ((λ f. w.0 (omega (arith, f))), w.1) ]

  -- a change of a stage that leaves its task unfinished
  pub keep_task : (rs : List (Record N L R)) (t : ℕ) (r : Record N L R) (s : Stage N L R) (home : Option Home) → slice_get rs t ≡ Some r → (IsUnfinished r.stage → IsUnfinished s) → HasTask rs home → HasTask (set_stage rs t s) home
  keep_task rs t r s home at keeps has =
      elim (same_or_other has.ticket t) [
        | inl e ↦
            let same : has.task ≡ r = some_is (sym has.at ∙ ap (λ (n : ℕ). slice_get rs n) e ∙ at) in
            record {
              ticket = t;
              task = record { work = r.work; home = r.home; before = r.before; stage = s };
              at = get_set rs t r s at;
              is_home = ap (λ (x : Record N L R). x.home) (sym same) ∙ has.is_home;
              unfinished = keeps (subst (λ (x : Record N L R). IsUnfinished x.stage) same has.unfinished);
            }
        | inr ne ↦ record { ticket = has.ticket; task = has.task; at = get_other rs t has.ticket s ne ∙ has.at; is_home = has.is_home; unfinished = has.unfinished }
      ]

  -- a task that is over no more fills its home
  over_task : (rs : List (Record N L R)) (t : ℕ) (r : Record N L R) (home : Option Home) → slice_get rs t ≡ Some r → HasTask rs home → HasTask (set_stage rs t Over) home ⊎ (r.home ≡ home)
  over_task rs t r home at has =
      elim (same_or_other has.ticket t) [
        | inl e ↦
            let same : has.task ≡ r = some_is (sym has.at ∙ ap (λ (n : ℕ). slice_get rs n) e ∙ at) in
            inr (ap (λ (x : Record N L R). x.home) (sym same) ∙ has.is_home)
        | inr ne ↦ inl (record { ticket = has.ticket; task = has.task; at = get_other rs t has.ticket Over ne ∙ has.at; is_home = has.is_home; unfinished = has.unfinished })
      ]

  pub more_task : (rs cs : List (Record N L R)) (home : Option Home) → HasTask rs home → HasTask (rs ++ cs) home
  more_task rs cs home has = record { ticket = has.ticket; task = has.task; at = front rs has.ticket has.task has.at; is_home = has.is_home; unfinished = has.unfinished }
    where
      front : (xs : List (Record N L R)) (i : ℕ) (x : Record N L R) → slice_get xs i ≡ Some x → slice_get (xs ++ cs) i ≡ Some x
      front [] i x e = absurd (cc)
      front (z ∷ xs) zero x e = e
      front (z ∷ xs) (suc i) x e = front xs i x e

  -- all is awaited but for a task at this home
  pub record IsAwaitedBut (home : Option Home) (rs : List (Record N L R)) (value : Option (Evaluation L)) : Type 0 where
    pub some : (ticket : ℕ) (r : Record N L R) → slice_get rs ticket ≡ Some r → IsBranched r.stage → (place : ℕ) × (slice_get (slots_of r.stage) place ≡ Some None)
    pub slots : (ticket place : ℕ) (r : Record N L R) → slice_get rs ticket ≡ Some r → slice_get (slots_of r.stage) place ≡ Some None
        → HasTask rs (Some (record { ticket = ticket; place = place })) ⊎ (home ≡ Some (record { ticket = ticket; place = place }))
    pub root : value ≡ None → HasTask rs None ⊎ (home ≡ None)

  over_slots : (s : Stage N L R) (p : ℕ) → s ≡ Over → slice_get (slots_of s) p ≡ Some None → ⊥
  over_slots s p e at = rw e at (empty_branched s p at)

  over_branched : (s : Stage N L R) → s ≡ Over → IsBranched s → ⊥
  over_branched s e b = rw e at b

  -- a task is over
  pub awaited_over : (rs : List (Record N L R)) (v : Option (Evaluation L)) (t : ℕ) (r : Record N L R) → slice_get rs t ≡ Some r → IsAwaited rs v → IsAwaitedBut r.home (set_stage rs t Over) v
  awaited_over rs v t r at a = record {
    some = λ u q e b. elim (set_inv rs t u Over q e) [ inl w ↦ absurd (over_branched q.stage w.1 b) | inr w ↦ a.some u q w.1 b ];
    slots = λ u p q e n. elim (set_inv rs t u Over q e) [
      | inl w ↦ absurd (over_slots q.stage p w.1 n)
      | inr w ↦ over_task rs t r (Some (record { ticket = u; place = p })) at (a.slots u p q w.1 n)
    ];
    root = λ e. over_task rs t r None at (a.root e);
  }

  -- so is the task at the home
  awaited_next : (rs : List (Record N L R)) (v : Option (Evaluation L)) (home : Home) (r : Record N L R) → slice_get rs home.ticket ≡ Some r → IsAwaitedBut (Some home) rs v → IsAwaitedBut r.home (set_stage rs home.ticket Over) v
  awaited_next rs v home r at a = record {
    some = λ u q e b. elim (set_inv rs home.ticket u Over q e) [ inl w ↦ absurd (over_branched q.stage w.1 b) | inr w ↦ a.some u q w.1 b ];
    slots = λ u p q e n. elim (set_inv rs home.ticket u Over q e) [
      | inl w ↦ absurd (over_slots q.stage p w.1 n)
      | inr w ↦ elim (a.slots u p q w.1 n) [
        | inl has ↦ over_task rs home.ticket r (Some (record { ticket = u; place = p })) at has
        | inr f ↦ absurd (w.0 (ap (λ (h : Home). h.ticket) (sym (some_is f))))
      ]
    ];
    root = λ e. elim (a.root e) [ inl has ↦ over_task rs home.ticket r None at has | inr f ↦ absurd (cc) ];
  }

  branched_unfinished : (s : Stage N L R) → IsBranched s → IsUnfinished s
  branched_unfinished (Open k) b = tt
  branched_unfinished Out b = tt
  branched_unfinished Refused b = tt
  branched_unfinished (Forked slots) b = tt
  branched_unfinished (Waiting slots rest) b = tt
  branched_unfinished Over b = b

  -- a list fills its slot
  awaited_filled : (rs : List (Record N L R)) (v : Option (Evaluation L)) (home : Home) (q : Record N L R) (e : Evaluation L) → slice_get rs home.ticket ≡ Some q
      → slice_get (slots_of q.stage) home.place ≡ Some None → (IsFull (set (slots_of q.stage) home.place (Some e)) → ⊥) → IsAwaitedBut (Some home) rs v
      → IsAwaited (set_stage rs home.ticket (with_slots q.stage (set (slots_of q.stage) home.place (Some e)))) v
  awaited_filled rs v home q e at n f a =
      let slots : List (Option (Evaluation L)) = set (slots_of q.stage) home.place (Some e) in
      let s : Stage N L R = with_slots q.stage slots in
      let b = empty_branched q.stage home.place n in
      let b' : IsBranched s = with_branched q.stage slots b in
      let is : slots_of s ≡ slots = with_slots_of q.stage slots b in
      let keep : (h : Option Home) → HasTask rs h → HasTask (set_stage rs home.ticket s) h = λ h has. keep_task rs home.ticket q s h at (λ u. branched_unfinished s b') has in
      record {
        some = λ u r w br. elim (set_inv rs home.ticket u s r w) [
          | inl z ↦ let h = some_empty slots f in (h.0, rw (z.1, is) h.1)
          | inr z ↦ a.some u r z.1 br
        ];
        slots = λ u p r w m. elim (set_inv rs home.ticket u s r w) [
          | inl z ↦
              let m' : slice_get slots p ≡ Some None = rw (z.1, is) at m in
              let h = still_empty (slots_of q.stage) home.place p e m' in
              let at' : slice_get rs u ≡ Some q = rw z.0 at in
              elim (a.slots u p q at' h.1) [
                | inl has ↦ keep (Some (record { ticket = u; place = p })) has
                | inr g ↦ absurd (h.0 (ap (λ (k : Home). k.place) (sym (some_is g))))
              ]
          | inr z ↦ elim (a.slots u p r z.1 m) [
            | inl has ↦ keep (Some (record { ticket = u; place = p })) has
            | inr g ↦ absurd (z.0 (ap (λ (k : Home). k.ticket) (sym (some_is g))))
          ]
        ];
        root = λ z. elim (a.root z) [ inl has ↦ keep None has | inr g ↦ absurd (cc) ];
      }

  -- what is awaited once something rose
  abbrev pub AwaitedAfter : List (Record N L R) → Option (Evaluation L) → Option (Resumption L R) → Type 0
  AwaitedAfter rs v None = IsAwaited rs v
  AwaitedAfter rs v (Some made) = (r : Record N L R) × (slice_get rs made.ticket ≡ Some r) × IsAwaitedBut r.home rs v

  pub rises_awaited : {rs rs' : List (Record N L R)} {v v' : Option (Evaluation L)} {t : ℕ} {e : Evaluation L} {made : Option (Resumption L R)}
      → Rises rs v t e rs' v' made → (r : Record N L R) → slice_get rs t ≡ Some r → IsAwaitedBut r.home rs v → AwaitedAfter rs' v' made
  rises_awaited (at_root {rs = rs} {value = v} {worth = e} {r = q} x y) r at a =
      let home : r.home ≡ None = ap (λ (z : Record N L R). z.home) (some_is (sym at ∙ x)) ∙ y in
      record {
        some = a.some;
        slots = λ u p z w n. elim (a.slots u p z w n) [ inl has ↦ has | inr f ↦ absurd (let g : None ≡ Some (record { ticket = u; place = p }) = sym home ∙ f in cc) ];
        root = λ z. absurd (cc);
      }
  rises_awaited (astray {rs = rs} {value = v} {r = k} {q = q} {home = home} x y z n) r at a =
      let is : r.home ≡ Some home = ap (λ (w : Record N L R). w.home) (some_is (sym at ∙ x)) ∙ y in
      record {
        some = a.some;
        slots = λ u p w e m. elim (a.slots u p w e m) [
          | inl has ↦ has
          | inr f ↦
              let g : home ≡ record { ticket = u; place = p } = some_is (sym is ∙ f) in
              let same : q ≡ w = some_is (sym z ∙ ap (λ (h : Home). slice_get rs h.ticket) g ∙ e) in
              absurd (n (rw (same, g) m))
        ];
        root = λ e. elim (a.root e) [ inl has ↦ has | inr f ↦ absurd (let g : Some home ≡ None = sym is ∙ f in cc) ];
      }
  rises_awaited (filled {rs = rs} {value = v} {worth = e} {r = k} {q = q} {home = home} x y z n f) r at a =
      let is : r.home ≡ Some home = ap (λ (w : Record N L R). w.home) (some_is (sym at ∙ x)) ∙ y in
      awaited_filled rs v home q e z n f (subst (λ (h : Option Home). IsAwaitedBut h rs v) is a)
  rises_awaited (joins {rs = rs} {value = v} {r = k} {q = q} {home = home} x y z s n f up) r at a =
      let is : r.home ≡ Some home = ap (λ (w : Record N L R). w.home) (some_is (sym at ∙ x)) ∙ y in
      rises_awaited up _ (get_set rs home.ticket q Over z) (awaited_next rs v home q z (subst (λ (h : Option Home). IsAwaitedBut h rs v) is a))
  rises_awaited (resumes {rs = rs} {value = v} {r = k} {q = q} {home = home} x y z s n f) r at a =
      let is : r.home ≡ Some home = ap (λ (w : Record N L R). w.home) (some_is (sym at ∙ x)) ∙ y in
      (_, get_set rs home.ticket q Over z, awaited_next rs v home q z (subst (λ (h : Option Home). IsAwaitedBut h rs v) is a))

  unbranched_slots : (s : Stage N L R) (p : ℕ) → (IsBranched s → ⊥) → slice_get (slots_of s) p ≡ Some None → ⊥
  unbranched_slots s p n e = n (empty_branched s p e)

  -- a stage without slots changes to another
  pub awaited_set : (rs : List (Record N L R)) (v : Option (Evaluation L)) (t : ℕ) (r : Record N L R) (s : Stage N L R) → slice_get rs t ≡ Some r → IsUnfinished s → (IsBranched s → ⊥) → IsAwaited rs v → IsAwaited (set_stage rs t s) v
  awaited_set rs v t r s at un nb a = record {
    some = λ u q e b. elim (set_inv rs t u s q e) [ inl w ↦ absurd (nb (subst IsBranched w.1 b)) | inr w ↦ a.some u q w.1 b ];
    slots = λ u p q e n. elim (set_inv rs t u s q e) [
      | inl w ↦ absurd (unbranched_slots q.stage p (λ b. nb (subst IsBranched w.1 b)) n)
      | inr w ↦ keep_task rs t r s (Some (record { ticket = u; place = p })) at (λ z. un) (a.slots u p q w.1 n)
    ];
    root = λ e. keep_task rs t r s None at (λ z. un) (a.root e);
  }

  last_record : (rs : List (Record N L R)) (r : Record N L R) → slice_get (rs ++ r ∷ []) (length rs) ≡ Some r
  last_record [] r = refl
  last_record (q ∷ rs) r = last_record rs r

  pub split_get : (rs cs : List (Record N L R)) (u : ℕ) (r : Record N L R) → slice_get (rs ++ cs) u ≡ Some r → (slice_get rs u ≡ Some r) ⊎ ((k : ℕ) × (u ≡ length rs + k) × (slice_get cs k ≡ Some r))
  split_get [] cs u r e = inr (u, omega arith, e)
  split_get (q ∷ rs) cs zero r e = inl e
  split_get (q ∷ rs) cs (suc u) r e = elim (split_get rs cs u r e) [ inl w ↦ inl w | inr w ↦ inr (w.0, omega (arith, w.1), w.2) ]

  -- a task is added at the home that lacks one
  pub awaited_pushed : (rs : List (Record N L R)) (v : Option (Evaluation L)) (r : Record N L R) → IsUnfinished r.stage → (IsBranched r.stage → ⊥) → IsAwaitedBut r.home rs v → IsAwaited (rs ++ r ∷ []) v
  awaited_pushed rs v r un nb a =
      let here : (h : Option Home) → r.home ≡ h → HasTask (rs ++ r ∷ []) h = λ h e. record { ticket = length rs; task = r; at = last_record rs r; is_home = e; unfinished = un } in
      let has_it : (h : Option Home) → HasTask rs h ⊎ (r.home ≡ h) → HasTask (rs ++ r ∷ []) h = λ h x. elim x [ inl has ↦ more_task rs (r ∷ []) h has | inr e ↦ here h e ] in
      record {
        some = λ u q e b. elim (split_get rs (r ∷ []) u q e) [ inl w ↦ a.some u q w b | inr w ↦ absurd (nb (subst (λ (x : Record N L R). IsBranched x.stage) (sym (only r w.0 q w.2)) b)) ];
        slots = λ u p q e n. elim (split_get rs (r ∷ []) u q e) [
          | inl w ↦ has_it (Some (record { ticket = u; place = p })) (a.slots u p q w n)
          | inr w ↦ absurd (unbranched_slots q.stage p (λ b. nb (subst (λ (x : Record N L R). IsBranched x.stage) (sym (only r w.0 q w.2)) b)) n)
        ];
        root = λ e. has_it None (a.root e);
      }
    where
      only : (r : Record N L R) (k : ℕ) (q : Record N L R) → slice_get (r ∷ []) k ≡ Some q → r ≡ q
      only r zero q e = some_is e
      only r (suc k) q e = absurd (cc)

  -- on a board that stands idle a task is out
  module _ (rs : List (Record N L R)) (v : Option (Evaluation L)) (o : AreInOrder (length rs) rs) (homes : HomesBelow 0 rs) (a : IsAwaited rs v) where
    -- a task of a higher ticket that isn't over
    record Above (u : ℕ) : Type 0 where
      ticket : ℕ
      task : Record N L R
      at : slice_get rs ticket ≡ Some task
      unfinished : IsUnfinished task.stage
      higher : u < ticket

    waits : (u : ℕ) (r : Record N L R) → slice_get rs u ≡ Some r → IsBranched r.stage → Above u
    waits u r at b =
        let p = a.some u r at b in
        let has = a.slots u p.0 r at p.1 in
        let below = home_below 0 rs has.ticket has.task (record { ticket = u; place = p.0 }) homes has.at has.is_home in
        record { ticket = has.ticket; task = has.task; at = has.at; unfinished = has.unfinished; higher = omega (arith, below) }

    step : (u : ℕ) (r : Record N L R) (s : Stage N L R) → r.stage ≡ s → slice_get rs u ≡ Some r → IsUnfinished s → IsBegun s → (0 < out_count rs) ⊎ Above u
    step u r (Open w) is at un b = absurd b
    step u r Out is at un b = inl (some_out rs u r at is)
    step u r Refused is at un b = absurd b
    step u r (Forked slots) is at un b = inr (waits u r at (rw is tt))
    step u r (Waiting slots rest) is at un b = inr (waits u r at (rw is tt))
    step u r Over is at un b = absurd un

    from : (k u : ℕ) (r : Record N L R) → slice_get rs u ≡ Some r → IsUnfinished r.stage → length rs ≤ k + u → 0 < out_count rs
    from zero u r at un le = absurd (omega (arith, within_record rs u r at, le))
    from (suc k) u r at un le =
        elim (step u r r.stage refl at un (begun_at (length rs) rs u r o at (within_record rs u r at))) [ inl h ↦ h | inr w ↦ from k w.ticket w.task w.at w.unfinished (omega (arith, le, w.higher)) ]

    pub idle_out : v ≡ None → 0 < out_count rs
    idle_out e = let has = a.root e in from (length rs) has.ticket has.task has.at has.unfinished (omega arith)
