-- The sets of nodes that walks come to.
use Rattle.std.proofs.Common.{◌≡◌, ◌<◌, ◌⊎◌, ℕ, Bool, true, List, [], length, ⊎_elim, subst, sym}
use Rattle.std.specs.Prelude.{slice_index_or}
use Rattle.std.specs.List.{Contains}
use Rattle.flat_ir.specs.declared.names.RegId.{RegId}
use Rattle.least.specs.Sets.{has, Only}
use Rattle.flow.specs.Paths.{IsGraph, SetsAt, Comes, starts, goes_on}

pub start_only : (rows : List (List ℕ)) (results : List (List RegId)) (r : RegId) (old new : List Bool) → Only (Comes rows results r) (has old) →
    ((k : ℕ) → has new k ≡ true → (has old k ≡ true) ⊎ (k ≡ 0)) → Only (Comes rows results r) (has new)
start_only rows results r old new only added = λ k h.
    ⊎_elim (only k) (λ e. subst (λ (n : ℕ). Comes rows results r n) (sym e) starts) (added k h)

pub go_only : (rows : List (List ℕ)) (results : List (List RegId)) (r : RegId) (n : ℕ) (row : List ℕ) (old new : List Bool) → row ≡ slice_index_or rows n [] →
    Only (Comes rows results r) (has old) → has old n ≡ true → (SetsAt results r n → ⊥) →
    ((k : ℕ) → has new k ≡ true → (has old k ≡ true) ⊎ Contains row k) → Only (Comes rows results r) (has new)
go_only rows results r n row old new is only there unset added = λ k h.
    ⊎_elim (only k) (λ edge. goes_on n (only n there) unset (subst (λ (r : List ℕ). Contains r k) is edge)) (added k h)

pub in_graph : (rows : List (List ℕ)) (n : ℕ) (row : List ℕ) → IsGraph rows → row ≡ slice_index_or rows n [] → (k : ℕ) → Contains row k → k < length rows
in_graph rows n row nodes is k there = nodes n k (subst (λ (r : List ℕ). Contains r k) is there)
