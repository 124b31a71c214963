-- How many conflicting leaves a tree can have.
use Rattle.std.proofs.Common.{◌≡◌, ◌≤◌, ◌+◌, ◌^◌, ℕ, zero, suc, Bool, true, false, List, [], ◌∷◌, ◌++◌, length, refl, ⊎_elim, arith}
use Rattle.std.proofs.Math.Nat.{pow-suc}
use Rattle.std.proofs.Math.Pow.{pow_mono}
use Rattle.std.proofs.lemmas.Nat.{pow_pos}
use Rattle.std.proofs.lemmas.Bool.{cases_Bool}
use Rattle.cnf.specs.declared.Lit.{Lit}
use Rattle.cnf.specs.Cnf.{Cnf}
use Rattle.cnf.specs.Rounds.{conflicts}
use Rattle.search.specs.Tree.{Tree, conflicting, model, decided, literal, has_literal_of, values_of, tree, log_of}
use Rattle.search.specs.Verdict.{Leaf, conflict, values, Walk, found, spent, left, leaves, walk, is_spent, verdict_at, verdict}
use Rattle.search.proofs.TreeLemmas.{tree-conflicting, tree-model, tree-skip, tree-decided}

conflicts_in : List Leaf → ℕ
conflicts_in [] = 0
conflicts_in (conflict ∷ ls) = suc (conflicts_in ls)
conflicts_in (values vs ∷ ls) = conflicts_in ls

conflicts_in-append : (xs ys : List Leaf) → conflicts_in (xs ++ ys) ≡ conflicts_in xs + conflicts_in ys
unfolding conflicts_in
conflicts_in-append [] ys = omega arith
conflicts_in-append (conflict ∷ xs) ys = let rest = conflicts_in-append xs ys in omega arith
conflicts_in-append (values vs ∷ xs) ys = conflicts_in-append xs ys

spent_needs : (budget : ℕ) (ls : List Leaf) → walk budget ls ≡ spent → budget ≤ conflicts_in ls
unfolding walk conflicts_in
spent_needs zero ls e = omega arith
spent_needs (suc n) [] e = absurd (cc)
spent_needs (suc n) (conflict ∷ ls) e = let rest = spent_needs n ls e in omega arith
spent_needs (suc n) (values vs ∷ ls) e = absurd (cc)

at_conflict : (D : List Lit) → conflicts_in (leaves (conflicting D)) ≡ 1
unfolding leaves conflicts_in
at_conflict D = refl

at_model : (vs : List Bool) → conflicts_in (leaves (model vs)) ≡ 0
unfolding leaves conflicts_in
at_model vs = refl

at_decided : (D : List Lit) (low high : Tree) → conflicts_in (leaves (decided D low high)) ≡ conflicts_in (leaves low) + conflicts_in (leaves high)
unfolding leaves
at_decided D low high = conflicts_in-append (leaves low) (leaves high)

count : Tree → ℕ
count t = conflicts_in (leaves t)

doubled : (n : ℕ) → 2 ^ suc n ≡ 2 ^ n + 2 ^ n
doubled n = let h = pow-suc 2 n in omega arith

one_at_most : (n : ℕ) → 1 ≤ 2 ^ n
one_at_most n = pow_pos n

bounded : (F : List (List Lit)) (vars : ℕ) (order : List ℕ) (D : List Lit) → count (tree F vars order D) ≤ 2 ^ length order
unfolding count
bounded F vars [] D =
    ⊎_elim (λ e. rw (tree-conflicting F vars [] D e, at_conflict D) (one_at_most 0)) (λ e. rw (tree-model F vars D e, at_model (values_of F vars D)) (omega arith)) (cases_Bool (conflicts F D))
bounded F vars (x ∷ order) D =
    ⊎_elim (λ e. rw (tree-conflicting F vars (x ∷ order) D e, at_conflict D) (one_at_most (suc (length order)))) (λ e.
    ⊎_elim (λ has. rw (tree-skip F vars x order D e has) (let rest = bounded F vars order D in let two = doubled (length order) in omega arith)) (λ lacks.
    rw (tree-decided F vars x order D e lacks, at_decided D _ _) (let low = bounded F vars order (D ++ literal x false ∷ []) in let high = bounded F vars order (D ++ literal x true ∷ []) in let two = doubled (length order) in omega arith)) (cases_Bool (has_literal_of F vars D x))) (cases_Bool (conflicts F D))

pub spent_bound : (f : Cnf) (order : List ℕ) (budget : ℕ) → verdict f order budget ≡ is_spent → budget ≤ 2 ^ length order
unfolding count
spent_bound f order budget e = by_walk (walk budget (leaves (tree f.clauses f.vars order []))) refl e
  where
    by_walk : (w : Walk) → walk budget (leaves (tree f.clauses f.vars order [])) ≡ w → verdict_at w (log_of (tree f.clauses f.vars order [])) ≡ is_spent → budget ≤ 2 ^ length order
    by_walk (found vs) is h = absurd (cc)
    by_walk spent is h =
        let first = spent_needs budget (leaves (tree f.clauses f.vars order [])) is in
        let second = bounded f.clauses f.vars order [] in
        omega arith
    by_walk (left n) is h = absurd (cc)

pub unspent : (f : Cnf) (order : List ℕ) (budget : ℕ) → length order ≤ 16 → 65537 ≤ budget → verdict f order budget ≡ is_spent → ⊥
unspent f order budget short large e =
    let bound = spent_bound f order budget e in
    let most : 2 ^ length order ≤ 2 ^ 16 = pow_mono short in
    omega arith
