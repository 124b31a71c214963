-- The clauses of a log are over the variables of the order.
use Rattle.std.proofs.Common.{◌≡◌, ◌<◌, ℕ, Bool, true, false, List, [], ◌∷◌, ◌++◌, sym, subst, ⊎_elim}
use Rattle.std.specs.List.{All, AllByRecursion}
use Rattle.std.proofs.lemmas.Bool.{cases_Bool}
use Rattle.std.proofs.lemmas.List.Elements.{All-append, All-cons, All-nil, All-from_recursion, recursion_from_All}
use Rattle.cnf.specs.declared.Lit.{Lit}
use Rattle.cnf.specs.Cnf.{Cnf, IsBelow}
use Rattle.cnf.specs.Rounds.{conflicts}
use Rattle.cnf.specs.Rup.{negation_of}
use Rattle.search.specs.Tree.{Tree, conflicting, model, decided, literal, has_literal_of, values_of, tree, log_of}
use Rattle.search.specs.Verdict.{Walk, found, spent, left, leaves, walk, verdict, verdict_at, is_refuted}
use Rattle.search.proofs.TreeLemmas.{tree-conflicting, tree-model, tree-skip, tree-decided}

module _ (vars : ℕ) where
  IsIn : Lit → Type 0
  IsIn l = l.var < vars

  negation_in : (D : List Lit) → AllByRecursion IsIn D → AllByRecursion IsIn (negation_of D)
  unfolding IsIn
  negation_in [] h = tt
  negation_in (l ∷ D) h = (h.0, negation_in D h.1)

  one_in : (D : List Lit) → AllByRecursion IsIn D → IsBelow vars (negation_of D ∷ [])
  unfolding IsIn
  one_in D h =
      All-cons (All (λ l. l.var < vars)) (negation_of D) [] (All-from_recursion (λ l. l.var < vars) (negation_of D) (negation_in D h)) (All-nil (All (λ l. l.var < vars)))

  pushed_in : (D : List Lit) (v : ℕ) (b : Bool) → AllByRecursion IsIn D → v < vars → AllByRecursion IsIn (D ++ literal v b ∷ [])
  unfolding IsIn
  pushed_in [] v b h low = (low, tt)
  pushed_in (l ∷ D) v b h low = (h.0, pushed_in D v b h.1 low)

  at_conflict : (D : List Lit) → AllByRecursion IsIn D → IsBelow vars (log_of (conflicting D))
  unfolding log_of
  at_conflict D h = one_in D h

  at_model : (vs : List Bool) → IsBelow vars (log_of (model vs))
  unfolding log_of
  at_model vs = All-nil (All (λ l. l.var < vars))

  at_decision : (D : List Lit) (low high : Tree) → AllByRecursion IsIn D → IsBelow vars (log_of low) → IsBelow vars (log_of high) → IsBelow vars (log_of (decided D low high))
  unfolding log_of
  at_decision D low high h first second =
      let P : List Lit → Type 0 = All (λ l. l.var < vars) in
      All-append P (log_of low ++ log_of high) (negation_of D ∷ []) (All-append P (log_of low) (log_of high) first second) (one_in D h)

  module _ (F : List (List Lit)) where
    tree_in : (order : List ℕ) (D : List Lit) → AllByRecursion (λ v. v < vars) order → AllByRecursion IsIn D → IsBelow vars (log_of (tree F vars order D))
    tree_in [] D low h =
        let P : Tree → Type 0 = λ t. IsBelow vars (log_of t) in
        ⊎_elim (λ e. subst P (sym (tree-conflicting F vars [] D e)) (at_conflict D h)) (λ e. subst P (sym (tree-model F vars D e)) (at_model (values_of F vars D))) (cases_Bool (conflicts F D))
    tree_in (x ∷ order) D low h =
        let P : Tree → Type 0 = λ t. IsBelow vars (log_of t) in
        ⊎_elim (λ e. subst P (sym (tree-conflicting F vars (x ∷ order) D e)) (at_conflict D h)) (λ e.
        ⊎_elim (λ has. subst P (sym (tree-skip F vars x order D e has)) (tree_in order D low.1 h)) (λ lacks.
        subst P (sym (tree-decided F vars x order D e lacks)) (at_decision D _ _ h (tree_in order (D ++ literal x false ∷ []) low.1 (pushed_in D x false h low.0)) (tree_in order (D ++ literal x true ∷ []) low.1 (pushed_in D x true h low.0)))) (cases_Bool (has_literal_of F vars D x))) (cases_Bool (conflicts F D))

walk_log : (w : Walk) (log refutation : List (List Lit)) → verdict_at w log ≡ is_refuted refutation → log ≡ refutation
walk_log (found vs) log refutation e = absurd (cc)
walk_log spent log refutation e = absurd (cc)
walk_log (left n) log refutation e = let same : log ≡ refutation = cc in same

pub log_below : (f : Cnf) (order : List ℕ) (budget : ℕ) (log : List (List Lit)) → All (λ v. v < f.vars) order → verdict f order budget ≡ is_refuted log → IsBelow f.vars log
log_below f order budget log low e =
    let t = tree f.clauses f.vars order [] in
    subst (IsBelow f.vars) (walk_log (walk budget (leaves t)) (log_of t) log e) (tree_in f.vars f.clauses order [] (recursion_from_All (λ v. v < f.vars) order low) tt)
