-- Changes of the records of a board.
use Rattle.std.proofs.Common.{◌≡◌, ◌≢◌, ℕ, zero, suc, ◌+◌, ◌<◌, ◌≤◌, List, [], ◌∷◌, length, slice_get, get_or, Some, refl, sym, ap, ◌∙◌, subst, arith}
use Rattle.std.proofs.Math.ListN.{set}
use Rattle.await_core.specs.declared.record.Home.{Home}
use Rattle.await_core.specs.declared.record.Record.{Record}
use Rattle.await_core.specs.declared.record.Stage.{Stage}
use Rattle.await_core.specs.declared.record.Stage.TheVariants.{Open, Out, Refused, Forked, Waiting, Over}
use Rattle.await_core.specs.declared.record.Work.{Work}
use Rattle.await_core.specs.Slots.{held_in}
use Rattle.await_core.specs.Boards.{works_of, stage_at, set_stage, slots_of, IsOpen, IsBelow, HomesBelow, leaves_held}

pub some_is : {A : Type 0} {a b : A} → Some a ≡ Some b → a ≡ b
some_is e = cc

module _ {N L R : Type 0} where
  pub set-stage : (rs : List (Record N L R)) (t : ℕ) (r : Record N L R) (stage : Stage N L R) → t < length rs → r ≡ get_or rs t r
      → set rs t (record { work = r.work; home = r.home; before = r.before; stage = stage }) ≡ set_stage rs t stage
  set-stage [] t r stage lt e = refl
  set-stage (q ∷ rs) zero r stage lt e = ap (λ (x : Record N L R). record { work = x.work; home = x.home; before = x.before; stage = stage } ∷ rs) e
  set-stage (q ∷ rs) (suc t) r stage lt e = ap (λ xs. q ∷ xs) (set-stage rs t r stage (omega (arith, lt)) e)

  pub works-set_stage : (rs : List (Record N L R)) (t : ℕ) (stage : Stage N L R) → works_of (set_stage rs t stage) ≡ works_of rs
  works-set_stage [] t stage = refl
  works-set_stage (r ∷ rs) zero stage = refl
  works-set_stage (r ∷ rs) (suc t) stage = ap (λ ws. r.work ∷ ws) (works-set_stage rs t stage)

  pub length-set_stage : (rs : List (Record N L R)) (t : ℕ) (stage : Stage N L R) → length (set_stage rs t stage) ≡ length rs
  length-set_stage [] t stage = refl
  length-set_stage (r ∷ rs) zero stage = refl
  length-set_stage (r ∷ rs) (suc t) stage = ap suc (length-set_stage rs t stage)

  pub set_twice : (rs : List (Record N L R)) (t : ℕ) (a b : Stage N L R) → set_stage (set_stage rs t a) t b ≡ set_stage rs t b
  set_twice [] t a b = refl
  set_twice (r ∷ rs) zero a b = refl
  set_twice (r ∷ rs) (suc t) a b = ap (λ xs. r ∷ xs) (set_twice rs t a b)

  pub set_same : (rs : List (Record N L R)) (t : ℕ) (r : Record N L R) → slice_get rs t ≡ Some r → set_stage rs t r.stage ≡ rs
  set_same [] t r e = refl
  set_same (q ∷ rs) zero r e = let f : q ≡ r = some_is e in ap (λ (x : Record N L R). record q { stage = x.stage } ∷ rs) (sym f)
  set_same (q ∷ rs) (suc t) r e = ap (λ xs. q ∷ xs) (set_same rs t r e)

  pub record_within : (rs : List (Record N L R)) (t : ℕ) → t < length rs → (r : Record N L R) × (slice_get rs t ≡ Some r)
  record_within [] t lt = absurd (omega (arith, lt))
  record_within (r ∷ rs) zero lt = (r, refl)
  record_within (r ∷ rs) (suc t) lt = record_within rs t (omega (arith, lt))

  pub within_record : (rs : List (Record N L R)) (t : ℕ) (r : Record N L R) → slice_get rs t ≡ Some r → t < length rs
  within_record [] t r e = absurd (cc)
  within_record (q ∷ rs) zero r e = omega arith
  within_record (q ∷ rs) (suc t) r e = omega (arith, within_record rs t r e)

  pub get_set : (rs : List (Record N L R)) (t : ℕ) (r : Record N L R) (s : Stage N L R) → slice_get rs t ≡ Some r
      → slice_get (set_stage rs t s) t ≡ Some (record { work = r.work; home = r.home; before = r.before; stage = s })
  get_set [] t r s e = absurd (cc)
  get_set (q ∷ rs) zero r s e = let f : q ≡ r = some_is e in ap (λ (x : Record N L R). Some (record { work = x.work; home = x.home; before = x.before; stage = s })) f
  get_set (q ∷ rs) (suc t) r s e = get_set rs t r s e

  pub get_other : (rs : List (Record N L R)) (t u : ℕ) (s : Stage N L R) → u ≢ t → slice_get (set_stage rs t s) u ≡ slice_get rs u
  get_other [] t u s ne = refl
  get_other (q ∷ rs) zero zero s ne = absurd (ne refl)
  get_other (q ∷ rs) zero (suc u) s ne = refl
  get_other (q ∷ rs) (suc t) zero s ne = refl
  get_other (q ∷ rs) (suc t) (suc u) s ne = get_other rs t u s (λ e. ne (ap suc e))

  pub homes-set_stage : (k : ℕ) (rs : List (Record N L R)) (t : ℕ) (stage : Stage N L R) → HomesBelow k rs → HomesBelow k (set_stage rs t stage)
  homes-set_stage k [] t stage h = h
  homes-set_stage k (r ∷ rs) zero stage h = h
  homes-set_stage k (r ∷ rs) (suc t) stage h = (h.0, homes-set_stage (k + 1) rs t stage h.1)

  pub home_below : (k : ℕ) (rs : List (Record N L R)) (t : ℕ) (r : Record N L R) (home : Home) → HomesBelow k rs → slice_get rs t ≡ Some r → r.home ≡ Some home → home.ticket < k + t
  home_below k [] t r home h e f = absurd (cc)
  home_below k (q ∷ rs) zero r home h e f =
      let g : q.home ≡ Some home = ap (λ (x : Record N L R). x.home) (some_is e) ∙ f in
      let i : IsBelow k (Some home) = subst (IsBelow k) g h.0 in
      omega (arith, i)
  home_below k (q ∷ rs) (suc t) r home h e f = let i = home_below (k + 1) rs t r home h.1 e f in omega (arith, i)

  pub held_set : (rs : List (Record N L R)) (t : ℕ) (r : Record N L R) (s : Stage N L R) → slice_get rs t ≡ Some r
      → leaves_held (set_stage rs t s) + held_in (slots_of r.stage) ≡ leaves_held rs + held_in (slots_of s)
  held_set [] t r s e = absurd (cc)
  held_set (q ∷ rs) zero r s e =
      let f : held_in (slots_of r.stage) ≡ held_in (slots_of q.stage) = ap (λ (x : Record N L R). held_in (slots_of x.stage)) (sym (some_is e)) in
      omega (arith, f)
  held_set (q ∷ rs) (suc t) r s e = omega (arith, held_set rs t r s e)

  pub held_le : (rs : List (Record N L R)) (t : ℕ) (r : Record N L R) → slice_get rs t ≡ Some r → held_in (slots_of r.stage) ≤ leaves_held rs
  held_le [] t r e = absurd (cc)
  held_le (q ∷ rs) zero r e =
      let f : held_in (slots_of r.stage) ≡ held_in (slots_of q.stage) = ap (λ (x : Record N L R). held_in (slots_of x.stage)) (sym (some_is e)) in
      omega (arith, f)
  held_le (q ∷ rs) (suc t) r e = omega (arith, held_le rs t r e)

  pub stage_of_record : (rs : List (Record N L R)) (t : ℕ) (r : Record N L R) (s : Stage N L R) → slice_get rs t ≡ Some r → stage_at rs t ≡ Some s → r.stage ≡ s
  stage_of_record [] t r s e f = absurd (cc)
  stage_of_record (q ∷ rs) zero r s e f = ap (λ (x : Record N L R). x.stage) (sym (some_is e)) ∙ some_is f
  stage_of_record (q ∷ rs) (suc t) r s e f = stage_of_record rs t r s e f

  -- a task that is out
  pub record OutRecord (rs : List (Record N L R)) (t : ℕ) : Type 0 where
    pub task : Record N L R
    pub at : slice_get rs t ≡ Some task
    pub is_out : task.stage ≡ Out

  pub record_of_stage : (rs : List (Record N L R)) (t : ℕ) (s : Stage N L R) → stage_at rs t ≡ Some s → (r : Record N L R) × (slice_get rs t ≡ Some r) × (r.stage ≡ s)
  record_of_stage [] t s e = absurd (cc)
  record_of_stage (r ∷ rs) zero s e = (r, refl, some_is e)
  record_of_stage (r ∷ rs) (suc t) s e = record_of_stage rs t s e

  pub out_record : (rs : List (Record N L R)) (t : ℕ) → stage_at rs t ≡ Some Out → OutRecord rs t
  out_record rs t e = let r = record_of_stage rs t Out e in record { task = r.0; at = r.1; is_out = r.2 }

  is_open_stage : (w : Work N L R) (s : Stage N L R) → IsOpen w s → (k : Work N L R) × (s ≡ Open k)
  is_open_stage w (Open k) o = (k, refl)
  is_open_stage w Out o = elim o [ ]
  is_open_stage w Refused o = elim o [ ]
  is_open_stage w (Forked s) o = elim o [ ]
  is_open_stage w (Waiting s r) o = elim o [ ]
  is_open_stage w Over o = elim o [ ]

  -- an open task is in no other stage
  pub only_open : (rs : List (Record N L R)) (t : ℕ) (s : Stage N L R) → ((r : Record N L R) → slice_get rs t ≡ Some r → IsOpen r.work r.stage) → stage_at rs t ≡ Some s → ((k : Work N L R) → s ≡ Open k → ⊥) → ⊥
  only_open rs t s o e other =
      let r = record_of_stage rs t s e in
      let k = is_open_stage r.0.work r.0.stage (o r.0 r.1) in
      other k.0 (sym r.2 ∙ k.1)

  open_is : (w k : Work N L R) (s : Stage N L R) → IsOpen w s → s ≡ Open k → w ≡ k
  open_is w k s o e = let o' = rw e at o in sym o'

  pub open_work : (rs : List (Record N L R)) (t : ℕ) (k : Work N L R) → ((r : Record N L R) → slice_get rs t ≡ Some r → IsOpen r.work r.stage) → stage_at rs t ≡ Some (Open k) → slice_get (works_of rs) t ≡ Some k
  open_work rs t k o e =
      let r = record_of_stage rs t (Open k) e in
      work_at rs t r.0 r.1 ∙ ap Some (open_is r.0.work k r.0.stage (o r.0 r.1) r.2)
    where
      work_at : (rs : List (Record N L R)) (t : ℕ) (r : Record N L R) → slice_get rs t ≡ Some r → slice_get (works_of rs) t ≡ Some r.work
      work_at [] t r e = absurd (cc)
      work_at (q ∷ rs) zero r e = ap (λ (x : Record N L R). Some x.work) (some_is e)
      work_at (q ∷ rs) (suc t) r e = work_at rs t r e
