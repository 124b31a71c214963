-- Slots and what they stand for.
use Rattle.std.proofs.Common.{◌≡◌, ℕ, zero, suc, ◌+◌, ◌<◌, ◌≤◌, List, [], ◌∷◌, ◌++◌, length, take, drop, slice_get, get_or, Option, None, Some, refl, sym, ap, ◌∙◌, append_assoc, append-nil, length-append, add-one, arith}
use Rattle.std.proofs.Math.ListN.{set}
use Rattle.std.specs.Prelude.{unwrap_or}
use Rattle.await_core.specs.declared.evaluation.Evaluation.{Evaluation}
use Rattle.await_core.specs.Meaning.{joined}
use Rattle.await_core.specs.Slots.{IsFull, lists_in, tasks_in, held_in, slots_view, empty_count, task_sum, no_lists}

-- one number less is missing
pub empty_set : (ts : List (Option ℕ)) (p n : ℕ) → slice_get ts p ≡ Some None → empty_count (set ts p (Some n)) + 1 ≡ empty_count ts
empty_set [] p n e = absurd (cc)
empty_set (None ∷ ts) zero n e = omega arith
empty_set (Some k ∷ ts) zero n e = absurd (cc)
empty_set (None ∷ ts) (suc p) n e = omega (arith, empty_set ts p n e)
empty_set (Some k ∷ ts) (suc p) n e = empty_set ts p n e

pub length_numbers : (ts : List (Option ℕ)) (i : ℕ) (y : Option ℕ) → length (set ts i y) ≡ length ts
length_numbers [] i y = refl
length_numbers (l ∷ ts) zero y = refl
length_numbers (l ∷ ts) (suc i) y = ap suc (length_numbers ts i y)

module _ {L : Type 0} where
  pub view_set : (ls : List (List L)) (ts : List (Option ℕ)) (p : ℕ) (l : List L) (n : ℕ)
      → slots_view (set ls p l) (set ts p (Some n)) ≡ set (slots_view ls ts) p (Some (record { leaves = l; tasks = n }))
  view_set [] ts p l n = refl
  view_set (x ∷ ls) [] zero l n = refl
  view_set (x ∷ ls) [] (suc p) l n = refl
  view_set (x ∷ ls) (None ∷ ts) zero l n = refl
  view_set (x ∷ ls) (Some k ∷ ts) zero l n = refl
  view_set (x ∷ ls) (None ∷ ts) (suc p) l n = ap (λ s. None ∷ s) (view_set ls ts p l n)
  view_set (x ∷ ls) (Some k ∷ ts) (suc p) l n = ap (λ s. Some (record { leaves = x; tasks = k }) ∷ s) (view_set ls ts p l n)

  pub full_lists : (ls : List (List L)) (ts : List (Option ℕ)) → length ls ≡ length ts → IsFull (slots_view ls ts) → lists_in (slots_view ls ts) ≡ ls
  full_lists [] ts e f = refl
  full_lists (x ∷ ls) [] e f = absurd (omega (arith, e))
  full_lists (x ∷ ls) (None ∷ ts) e f = elim f [ ]
  full_lists (x ∷ ls) (Some k ∷ ts) e f = ap (λ s. x ∷ s) (full_lists ls ts (omega (arith, e)) f)

  pub view_tasks : (ls : List (List L)) (ts : List (Option ℕ)) → length ls ≡ length ts → tasks_in (slots_view ls ts) ≡ task_sum ts
  view_tasks [] [] e = refl
  view_tasks [] (t ∷ ts) e = absurd (omega (arith, e))
  view_tasks (x ∷ ls) [] e = absurd (omega (arith, e))
  view_tasks (x ∷ ls) (None ∷ ts) e = view_tasks ls ts (omega (arith, e))
  view_tasks (x ∷ ls) (Some k ∷ ts) e = ap (λ (s : ℕ). k + s) (view_tasks ls ts (omega (arith, e)))

  -- a slot is empty where no number is there
  pub empty_number : (ls : List (List L)) (ts : List (Option ℕ)) (p : ℕ) → slice_get (slots_view ls ts) p ≡ Some None → slice_get ts p ≡ Some None
  empty_number [] ts p e = absurd (cc)
  empty_number (x ∷ ls) [] p e = absurd (cc)
  empty_number (x ∷ ls) (None ∷ ts) zero e = refl
  empty_number (x ∷ ls) (Some k ∷ ts) zero e = absurd (cc)
  empty_number (x ∷ ls) (None ∷ ts) (suc p) e = empty_number ls ts p e
  empty_number (x ∷ ls) (Some k ∷ ts) (suc p) e = empty_number ls ts p e

  pub number_empty : (ls : List (List L)) (ts : List (Option ℕ)) (p : ℕ) → length ls ≡ length ts → slice_get ts p ≡ Some None → slice_get (slots_view ls ts) p ≡ Some None
  number_empty [] [] p l e = absurd (cc)
  number_empty [] (t ∷ ts) p l e = absurd (omega (arith, l))
  number_empty (x ∷ ls) [] p l e = absurd (cc)
  number_empty (x ∷ ls) (None ∷ ts) zero l e = refl
  number_empty (x ∷ ls) (Some k ∷ ts) zero l e = absurd (cc)
  number_empty (x ∷ ls) (None ∷ ts) (suc p) l e = number_empty ls ts p (omega (arith, l)) e
  number_empty (x ∷ ls) (Some k ∷ ts) (suc p) l e = number_empty ls ts p (omega (arith, l)) e

  pub none_empty : (ls : List (List L)) (ts : List (Option ℕ)) → empty_count ts ≡ 0 → IsFull (slots_view ls ts)
  none_empty [] ts e = tt
  none_empty (x ∷ ls) [] e = tt
  none_empty (x ∷ ls) (None ∷ ts) e = absurd (omega (arith, e))
  none_empty (x ∷ ls) (Some k ∷ ts) e = none_empty ls ts e

  pub full_none : (ls : List (List L)) (ts : List (Option ℕ)) → length ls ≡ length ts → IsFull (slots_view ls ts) → empty_count ts ≡ 0
  full_none [] [] l f = refl
  full_none [] (t ∷ ts) l f = absurd (omega (arith, l))
  full_none (x ∷ ls) [] l f = absurd (omega (arith, l))
  full_none (x ∷ ls) (None ∷ ts) l f = elim f [ ]
  full_none (x ∷ ls) (Some k ∷ ts) l f = full_none ls ts (omega (arith, l)) f

  -- the leaves of all lists but one
  pub held_others : (ls : List (List L)) (ts : List (Option ℕ)) (p : ℕ) (e : Evaluation L) → length ls ≡ length ts → slice_get ts p ≡ Some None → IsFull (set (slots_view ls ts) p (Some e))
      → held_in (slots_view ls ts) ≡ length (joined (take p ls)) + length (joined (drop (suc p) ls))
  held_others [] [] p e l n f = absurd (cc)
  held_others [] (t ∷ ts) p e l n f = absurd (omega (arith, l))
  held_others (x ∷ ls) [] p e l n f = absurd (cc)
  held_others (x ∷ ls) (Some k ∷ ts) zero e l n f = absurd (cc)
  held_others (x ∷ ls) (None ∷ ts) zero e l n f = held_all ls ts (omega (arith, l)) f
    where
      held_all : (ls : List (List L)) (ts : List (Option ℕ)) → length ls ≡ length ts → IsFull (slots_view ls ts) → held_in (slots_view ls ts) ≡ 0 + length (joined ls)
      held_all [] ts l f = refl
      held_all (y ∷ ls) [] l f = absurd (omega (arith, l))
      held_all (y ∷ ls) (None ∷ ts) l f = elim f [ ]
      held_all (y ∷ ls) (Some k ∷ ts) l f = omega (arith, held_all ls ts (omega (arith, l)) f, length-append y (joined ls))
  held_others (x ∷ ls) (None ∷ ts) (suc p) e l n f = elim f [ ]
  held_others (x ∷ ls) (Some k ∷ ts) (suc p) e l n f =
      omega (arith, held_others ls ts p e (omega (arith, l)) n f, length-append x (joined (take p ls)))

  -- the lists round one
  pub joined_round : (ls : List (List L)) (p : ℕ) (x : List L) → p < length ls → joined (set ls p x) ≡ joined (take p ls) ++ (x ++ joined (drop (suc p) ls))
  joined_round [] p x lt = absurd (omega (arith, lt))
  joined_round (l ∷ ls) zero x lt = refl
  joined_round (l ∷ ls) (suc p) x lt = ap (λ y. l ++ y) (joined_round ls p x (omega (arith, lt))) ∙ sym (append_assoc l (joined (take p ls)) (x ++ joined (drop (suc p) ls)))

  -- the list of a place moves to the end of the leaves
  behind_at : (ls : List (List L)) (i : ℕ) (x : List L) → slice_get ls i ≡ Some x → joined (drop i ls) ≡ x ++ joined (drop (suc i) (set ls i []))
  behind_at [] i x e = absurd (cc)
  behind_at (l ∷ ls) zero x e = let f : l ≡ x = cc in ap (λ y. y ++ joined ls) f
  behind_at (l ∷ ls) (suc i) x e = behind_at ls i x e

  pub behind_turn : (ls ls' : List (List L)) (i : ℕ) (x leaves leaves' start : List L) → slice_get ls i ≡ Some x → ls' ≡ set ls i [] → leaves' ≡ leaves ++ x
      → leaves ++ joined (drop i ls) ≡ start → leaves' ++ joined (drop (i + 1) ls') ≡ start
  behind_turn ls ls' i x leaves leaves' start at e f h =
      rw (e, f, add-one) (append_assoc leaves x (joined (drop (suc i) (set ls i []))) ∙ ap (λ y. leaves ++ y) (sym (behind_at ls i x at)) ∙ h)

  pub behind_length : (ls ls' : List (List L)) (i : ℕ) (x : List L) → slice_get ls i ≡ Some x → ls' ≡ set ls i []
      → length (joined (drop i ls)) ≡ length x + length (joined (drop (i + 1) ls'))
  behind_length ls ls' i x at e = rw (e, add-one) (ap length (behind_at ls i x at) ∙ length-append x (joined (drop (suc i) (set ls i []))))

  before_at : (ls : List (List L)) (i : ℕ) (x : List L) → slice_get ls i ≡ Some x → joined (take (suc i) ls) ≡ joined (take i (set ls i [])) ++ x
  before_at [] i x e = absurd (cc)
  before_at (l ∷ ls) zero x e = let f : l ≡ x = cc in append-nil l ∙ f
  before_at (l ∷ ls) (suc i) x e = ap (λ y. l ++ y) (before_at ls i x e) ∙ sym (append_assoc l (joined (take i (set ls i []))) x)

  pub before_turn : (ls ls' : List (List L)) (i j : ℕ) (x leaves leaves' start : List L) → j ≡ i + 1 → slice_get ls i ≡ Some x → ls' ≡ set ls i [] → leaves' ≡ x ++ leaves
      → joined (take j ls) ++ leaves ≡ start → joined (take i ls') ++ leaves' ≡ start
  before_turn ls ls' i j x leaves leaves' start k at e f h =
      let h' : joined (take (suc i) ls) ++ leaves ≡ start = rw (k, add-one) at h in
      rw (e, f) (sym (append_assoc (joined (take i (set ls i []))) x leaves) ∙ ap (λ y. y ++ leaves) (sym (before_at ls i x at)) ∙ h')

  pub before_length : (ls ls' : List (List L)) (i j : ℕ) (x : List L) → j ≡ i + 1 → slice_get ls i ≡ Some x → ls' ≡ set ls i []
      → length (joined (take j ls)) ≡ length (joined (take i ls')) + length x
  before_length ls ls' i j x k at e = rw (e, k, add-one) (ap length (before_at ls i x at) ∙ length-append (joined (take i (set ls i []))) x)

  pub take_kept : (ls : List (List L)) (k i : ℕ) (y : List L) → k ≤ i → take k (set ls i y) ≡ take k ls
  take_kept ls zero i y le = refl
  take_kept [] (suc k) i y le = refl
  take_kept (l ∷ ls) (suc k) zero y le = absurd (omega (arith, le))
  take_kept (l ∷ ls) (suc k) (suc i) y le = ap (λ s. l ∷ s) (take_kept ls k i y (omega (arith, le)))

  pub length_set : (ls : List (List L)) (i : ℕ) (y : List L) → length (set ls i y) ≡ length ls
  length_set [] i y = refl
  length_set (l ∷ ls) zero y = refl
  length_set (l ∷ ls) (suc i) y = ap suc (length_set ls i y)

  -- one more slot
  pub view_last : (ls : List (List L)) (ts : List (Option ℕ)) (l : List L) → length ls ≡ length ts → slots_view (ls ++ l ∷ []) (ts ++ None ∷ []) ≡ slots_view ls ts ++ None ∷ []
  view_last [] [] l e = refl
  view_last [] (t ∷ ts) l e = absurd (omega (arith, e))
  view_last (x ∷ ls) [] l e = absurd (omega (arith, e))
  view_last (x ∷ ls) (None ∷ ts) l e = ap (λ s. None ∷ s) (view_last ls ts l (omega (arith, e)))
  view_last (x ∷ ls) (Some k ∷ ts) l e = ap (λ s. Some (record { leaves = x; tasks = k }) ∷ s) (view_last ls ts l (omega (arith, e)))

  pub no_lists-last : (n : ℕ) → no_lists {L = L} (suc n) ≡ no_lists n ++ None ∷ []
  no_lists-last zero = refl
  no_lists-last (suc n) = ap (λ s. None ∷ s) (no_lists-last n)

  -- what stands behind the fields of slots
  pub record IsKept (ls : List (List L)) (ts : List (Option ℕ)) (left : ℕ) : Type 0 where
    pub even : length ls ≡ length ts
    pub lefts : left ≡ empty_count ts

  pub one_left : (ls : List (List L)) (ts : List (Option ℕ)) (left p : ℕ) (e : Evaluation L) → length ls ≡ length ts → left ≡ empty_count ts
      → slice_get (slots_view ls ts) p ≡ Some None → (left ≡ 1 → IsFull (set (slots_view ls ts) p (Some e))) × (IsFull (set (slots_view ls ts) p (Some e)) → left ≡ 1)
  one_left ls ts left p e l k at =
      let n = empty_set ts p e.tasks (empty_number ls ts p at) in
      let same = view_set ls ts p e.leaves e.tasks in
      let even : length (set ls p e.leaves) ≡ length (set ts p (Some e.tasks)) = length_set ls p e.leaves ∙ l ∙ sym (length_numbers ts p (Some e.tasks)) in (
        (λ one. rw (← same) (none_empty (set ls p e.leaves) (set ts p (Some e.tasks)) (omega (arith, n, k, one)))),
        (λ full. let z = full_none (set ls p e.leaves) (set ts p (Some e.tasks)) even (rw same full) in omega (arith, n, k, z)),
      )

  pub some_left : (ls : List (List L)) (ts : List (Option ℕ)) (left p : ℕ) → left ≡ empty_count ts → slice_get (slots_view ls ts) p ≡ Some None → 0 < left
  some_left ls ts left p k at = omega (arith, k, empty_set ts p 0 (empty_number ls ts p at))

  pub place_within : (ls : List (List L)) (ts : List (Option ℕ)) (p : ℕ) → slice_get (slots_view ls ts) p ≡ Some None → (p < length ls) × (p < length ts)
  place_within [] ts p e = absurd (cc)
  place_within (x ∷ ls) [] p e = absurd (cc)
  place_within (x ∷ ls) (None ∷ ts) zero e = (omega arith, omega arith)
  place_within (x ∷ ls) (Some k ∷ ts) zero e = (omega arith, omega arith)
  place_within (x ∷ ls) (None ∷ ts) (suc p) e = let h = place_within ls ts p e in (omega (arith, h.0), omega (arith, h.1))
  place_within (x ∷ ls) (Some k ∷ ts) (suc p) e = let h = place_within ls ts p e in (omega (arith, h.0), omega (arith, h.1))

pub sum_more : (ts : List (Option ℕ)) (i : ℕ) → i < length ts → task_sum (take (i + 1) ts) ≡ task_sum (take i ts) + unwrap_or (get_or ts i None) 0
sum_more ts i lt = rw add-one (sum_at ts i lt)
  where
    sum_at : (ts : List (Option ℕ)) (i : ℕ) → i < length ts → task_sum (take (suc i) ts) ≡ task_sum (take i ts) + unwrap_or (get_or ts i None) 0
    sum_at [] i lt = absurd (omega (arith, lt))
    sum_at (None ∷ ts) zero lt = refl
    sum_at (Some n ∷ ts) zero lt = omega arith
    sum_at (None ∷ ts) (suc i) lt = sum_at ts i (omega (arith, lt))
    sum_at (Some n ∷ ts) (suc i) lt = omega (arith, sum_at ts i (omega (arith, lt)))

pub empty_last : (ts : List (Option ℕ)) → empty_count (ts ++ None ∷ []) ≡ empty_count ts + 1
empty_last [] = refl
empty_last (None ∷ ts) = omega (arith, empty_last ts)
empty_last (Some n ∷ ts) = empty_last ts

module _ {L : Type 0} where
  pub take_less : (xs ys : List (List L)) (p : ℕ) → take (p + 1) xs ≡ take (p + 1) ys → take p xs ≡ take p ys
  take_less xs ys p e = sym (less xs p) ∙ ap (λ (zs : List (List L)). take p zs) (rw add-one at e) ∙ less ys p
    where
      less : (xs : List (List L)) (p : ℕ) → take p (take (suc p) xs) ≡ take p xs
      less xs zero = refl
      less [] (suc p) = refl
      less (x ∷ xs) (suc p) = ap (λ zs. x ∷ zs) (less xs p)

  pub held_round : (ls : List (List L)) (ts : List (Option ℕ)) (p : ℕ) (e : Evaluation L) → length ls ≡ length ts → slice_get (slots_view ls ts) p ≡ Some None → IsFull (set (slots_view ls ts) p (Some e))
      → held_in (slots_view ls ts) ≡ length (joined (take p ls)) + length (joined (drop (p + 1) ls))
  held_round ls ts p e l at f = rw add-one (held_others ls ts p e l (empty_number ls ts p at) f)

  even_set : (ls : List (List L)) (ts : List (Option ℕ)) (p : ℕ) (e : Evaluation L) → length ls ≡ length ts → length (set ls p e.leaves) ≡ length (set ts p (Some e.tasks))
  even_set ls ts p e l = length_set ls p e.leaves ∙ l ∙ sym (length_numbers ts p (Some e.tasks))

  pub round : (ls : List (List L)) (ts : List (Option ℕ)) (p : ℕ) (e : Evaluation L) → length ls ≡ length ts → slice_get (slots_view ls ts) p ≡ Some None → IsFull (set (slots_view ls ts) p (Some e))
      → joined (lists_in (set (slots_view ls ts) p (Some e))) ≡ joined (take p ls) ++ (e.leaves ++ joined (drop (p + 1) ls))
  round ls ts p e l at f =
      let same = view_set ls ts p e.leaves e.tasks in
      rw (add-one, ← same) (ap joined (full_lists (set ls p e.leaves) (set ts p (Some e.tasks)) (even_set ls ts p e l) (rw same f)) ∙ joined_round ls p e.leaves (place_within ls ts p at).0)

  pub round_tasks : (ls : List (List L)) (ts : List (Option ℕ)) (p : ℕ) (e : Evaluation L) → length ls ≡ length ts
      → tasks_in (set (slots_view ls ts) p (Some e)) ≡ task_sum (set ts p (Some e.tasks))
  round_tasks ls ts p e l = rw (← (view_set ls ts p e.leaves e.tasks)) (view_tasks (set ls p e.leaves) (set ts p (Some e.tasks)) (even_set ls ts p e l))

  pub new_view : (ls ls' : List (List L)) (ts ts' : List (Option ℕ)) (l : List L) (n : ℕ) → length ls ≡ n → length ts ≡ n → slots_view ls ts ≡ no_lists n → ls' ≡ ls ++ l ∷ [] → ts' ≡ ts ++ None ∷ []
      → slots_view ls' ts' ≡ no_lists (n + 1)
  new_view ls ls' ts ts' l n a b e f h = rw (f, h, add-one) (view_last ls ts l (a ∙ sym b) ∙ ap (λ (s : List (Option (Evaluation L))). s ++ None ∷ []) e ∙ sym (no_lists-last n))

pub new_empty : (ts ts' : List (Option ℕ)) (n : ℕ) → empty_count ts ≡ n → ts' ≡ ts ++ None ∷ [] → empty_count ts' ≡ n + 1
new_empty ts ts' n e f = rw f (omega (arith, empty_last ts, e))
