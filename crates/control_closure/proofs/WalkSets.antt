-- The sets of nodes that walks pass.
use Rattle.std.proofs.Common.{◌≡◌, ◌<◌, ◌⊎◌, ◌&&◌, ℕ, Bool, true, false, List, [], length, ⊎_elim, subst, sym, refl, Result, IfOk}
use Rattle.std.specs.Prelude.{slice_index_or, Ok, Err}
use Rattle.std.specs.List.{Contains}
use Rattle.least.specs.Sets.{has, Only, Exactly}
use Rattle.control_closure.specs.Met.{IsGraph, Meets, here, Lists}
use Rattle.control_closure.specs.Walks.{Passes, starts, goes_on, ListsBelow}
use Rattle.control_closure.specs.WalkLaws.{passed_meets, meets_passed, meets_kept}

pub start_only : (g : List (List ℕ)) (kept : ℕ → Bool) (start : ℕ) (old new : List Bool) → Only (Passes g kept start) (has old) →
    ((k : ℕ) → has new k ≡ true → (has old k ≡ true) ⊎ (k ≡ start)) → Only (Passes g kept start) (has new)
start_only g kept start old new only added = λ k h.
    ⊎_elim (only k) (λ e. subst (λ (n : ℕ). Passes g kept start n) (sym e) starts) (added k h)

pub go_only : (g : List (List ℕ)) (kept : ℕ → Bool) (start n : ℕ) (row : List ℕ) (old new : List Bool) → row ≡ slice_index_or g n [] →
    Only (Passes g kept start) (has old) → has old n ≡ true → kept n ≡ false →
    ((k : ℕ) → has new k ≡ true → (has old k ≡ true) ⊎ Contains row k) → Only (Passes g kept start) (has new)
go_only g kept start n row old new is only there open' added = λ k h.
    ⊎_elim (only k) (λ edge. goes_on n (only n there) open' (subst (λ (r : List ℕ). Contains r k) is edge)) (added k h)

pub in_graph : (g : List (List ℕ)) (n : ℕ) (row : List ℕ) → IsGraph g → row ≡ slice_index_or g n [] → (k : ℕ) → Contains row k → k < length g
in_graph g n row nodes is k there = nodes n k (subst (λ (r : List ℕ). Contains r k) is there)

both_true : (a b : Bool) → (a && b) ≡ true → (a ≡ true) × (b ≡ true)
both_true true true h = (refl, refl)
both_true true false h = absurd (cc)
both_true false b h = absurd (cc)

true_both : (a b : Bool) → a ≡ true → b ≡ true → (a && b) ≡ true
true_both a b h k = rw (h, k) refl

Passes-below : (g : List (List ℕ)) (kept : ℕ → Bool) (start : ℕ) → IsGraph g → start < length g → (n : ℕ) → Passes g kept start n → n < length g
Passes-below g kept start nodes within n starts = within
Passes-below g kept start nodes within m (goes_on n p open' edge) = nodes n m edge

pub met_lists : (g : List (List ℕ)) (kept : ℕ → Bool) (start : ℕ) (passed : List Bool) (found : List ℕ) → IsGraph g → start < length g →
    length passed ≡ length g → Exactly (Passes g kept start) (has passed) →
    ListsBelow (λ n. has passed n && kept n) (length passed) found → Lists (Meets g kept start) found
met_lists g kept start passed found nodes within size exactly f = record {
  ascending = f.ascending;
  only = λ m there. let b = both_true (has passed m) (kept m) (f.only m there) in passed_meets (exactly.only m b.0) (here b.1);
  all = λ m met. let p = meets_passed met starts in
      f.all m (subst (λ (n : ℕ). m < n) (sym size) (Passes-below g kept start nodes within m p)) (true_both (has passed m) (kept m) (exactly.all m p) (meets_kept met));
}

pub IfOk-map : {X E : Type 0} (P Q : X → Type 0) (r : Result X E) → ((x : X) → P x → Q x) → IfOk r P → IfOk r Q
IfOk-map P Q (Ok x) f h = f x h
IfOk-map P Q (Err e) f h = h
