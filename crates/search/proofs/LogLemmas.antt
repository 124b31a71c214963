-- The log of a tree without a model refutes the formula.
use Rattle.std.proofs.Common.{◌≡◌, ℕ, Bool, true, false, ◌||◌, List, [], ◌∷◌, ◌++◌, refl, sym, ap, subst, ◌∙◌, inr, ⊎_elim, Contains, append_assoc, All}
use Rattle.std.specs.List.{list_all}
use Rattle.std.proofs.lemmas.Bool.{cases_Bool, and_from, and_parts, or_left, or_right}
use Rattle.std.proofs.lemmas.List.Elements.{All-append, All-cons, All-nil, Contains-append_left, Contains-append_right, Contains-push}
use Rattle.cnf.specs.declared.Lit.{Lit}
use Rattle.cnf.specs.Cnf.{Cnf}
use Rattle.cnf.specs.Literals.{negated, same, among}
use Rattle.cnf.specs.Forced.{Forced, Conflicts}
use Rattle.cnf.specs.Rounds.{conflicts}
use Rattle.cnf.specs.Rup.{negation_of, IsRup, AllRup, IsRefutation}
use Rattle.cnf.proofs.SetLemmas.{same-refl, negated-negated}
use Rattle.cnf.proofs.ForcedLemmas.{Forced-given, Forced-step, among-append_right, Conflicts-wider}
use Rattle.cnf.proofs.RoundsLemmas.{Conflicts-from_conflicts}
use Rattle.cnf.proofs.RupLemmas.{AllRup-append, negation-negation, negation-append}
use Rattle.search.specs.Models.{EndsEmpty}
use Rattle.search.specs.Tree.{Tree, conflicting, model, decided, literal, has_literal_of, values_of, tree, log_of}
use Rattle.search.specs.Walks.{IsWalkOf}
use Rattle.search.specs.declared.Walked.{Walked}
use Rattle.search.specs.declared.Walked.TheVariants.{Left}
use Rattle.search.proofs.TreeLemmas.{tree-conflicting, tree-model, tree-skip, tree-decided}
use Rattle.search.proofs.RefutedLemmas.{HasConflictsAlone, conflicts_alone, no_model_alone, sides_alone}
use Rattle.search.proofs.NodeLemmas.{at_left}

rup_at : (G : List (List Lit)) (D : List Lit) → Conflicts G (among D) → IsRup G (negation_of D)
rup_at G D h = subst (λ E. Conflicts G (among E)) (sym (negation-negation D)) h

conflict_step : (F G : List (List Lit)) → ((c : List Lit) → Contains F c → Contains G c) → (D : List Lit) → conflicts F D ≡ true → IsRup G (negation_of D)
conflict_step F G part D e = rup_at G D (Conflicts-wider F G part (among D) (Conflicts-from_conflicts F D e))

-- the negated decisions are all false under the decisions
negations_false : (D E : List Lit) (k : Lit) → ((d : Lit) → among E d ≡ true → among D d ≡ true) → list_all (λ m. same m k || among D (negated m)) (negation_of E) ≡ true
negations_false D [] k part = refl
negations_false D (e ∷ E) k part =
    and_from (same (negated e) k || among D (negated (negated e))) (list_all (λ m. same m k || among D (negated m)) (negation_of E)) (or_right (same (negated e) k) (among D (negated (negated e))) (part (negated (negated e)) (or_left (same (negated (negated e)) e) (among E (negated (negated e))) (subst (λ x. same x e ≡ true) (sym (negated-negated e)) (same-refl e))))) (negations_false D E k (λ d h. part d (or_right (same d e) (among E d) h)))

list_all-push : (p : Lit → Bool) (ls : List Lit) (l : Lit) → list_all p ls ≡ true → p l ≡ true → list_all p (ls ++ l ∷ []) ≡ true
list_all-push p [] l h e = and_from (p l) true e refl
list_all-push p (m ∷ ls) l h e =
    let both = and_parts (p m) (list_all p ls) h in
    and_from (p m) (list_all p (ls ++ l ∷ [])) both.0 (list_all-push p ls l both.1 e)

-- the clause of one side forces the other side's literal
side_forces : (G : List (List Lit)) (D : List Lit) (l : Lit) → Contains G (negation_of (D ++ l ∷ [])) → Forced G (among D) (negated l)
side_forces G D l there =
    let c = negation_of D ++ negated l ∷ [] in
    let in_G : Contains G c = subst (Contains G) (negation-append D (l ∷ [])) there in
    let stands : among c (negated l) ≡ true = among-append_right (negation_of D) (negated l ∷ []) (negated l) (or_left (same (negated l) (negated l)) false (same-refl (negated l))) in
    let rest : list_all (λ m. same m (negated l) || among D (negated m)) c ≡ true = list_all-push (λ m. same m (negated l) || among D (negated m)) (negation_of D) (negated l) (negations_false D D (negated l) (λ d h. h)) (or_left (same (negated l) (negated l)) (among D (negated (negated l))) (same-refl (negated l))) in
    Forced-step G (among D) c (negated l) in_G stands (among D) (λ m e. Forced-given G (among D) m e) (and_from (among c (negated l)) _ stands rest)

both_step : (G : List (List Lit)) (D : List Lit) (x : ℕ) → Contains G (negation_of (D ++ literal x false ∷ [])) → Contains G (negation_of (D ++ literal x true ∷ [])) → IsRup G (negation_of D)
both_step G D x low high =
    rup_at G D (inr (literal x true, side_forces G D (literal x false) low, side_forces G D (literal x true) high))

log_at_conflict : (F : List (List Lit)) (D : List Lit) (G : List (List Lit)) → ((c : List Lit) → Contains F c → Contains G c) → conflicts F D ≡ true → AllRup G (log_of (conflicting D)) × Contains (log_of (conflicting D)) (negation_of D)
unfolding AllRup log_of
log_at_conflict F D G part e = ((conflict_step F G part D e, tt), Contains-push [] (negation_of D))

-- a part of a longer list
grown : (F G H : List (List Lit)) → ((c : List Lit) → Contains F c → Contains G c) → (c : List Lit) → Contains F c → Contains (G ++ H) c
grown F G H part c h = Contains-append_left G H c (part c h)

one_rup : (G : List (List Lit)) (c : List Lit) → IsRup G c → AllRup G (c ∷ [])
unfolding AllRup
one_rup G c h = (h, tt)

log_at_decision : (D : List Lit) (x : ℕ) (low high : Tree) (G : List (List Lit)) → AllRup G (log_of low) → Contains (log_of low) (negation_of (D ++ literal x false ∷ [])) → AllRup (G ++ log_of low) (log_of high) → Contains (log_of high) (negation_of (D ++ literal x true ∷ [])) → AllRup G (log_of (decided D low high)) × Contains (log_of (decided D low high)) (negation_of D)
unfolding log_of
log_at_decision D x low high G first low_stands second high_stands =
    let both = G ++ log_of low ++ log_of high in
    let low_there : Contains both (negation_of (D ++ literal x false ∷ [])) = Contains-append_left (G ++ log_of low) (log_of high) _ (Contains-append_right G (log_of low) _ low_stands) in
    let high_there : Contains both (negation_of (D ++ literal x true ∷ [])) = Contains-append_right (G ++ log_of low) (log_of high) _ high_stands in
    let last : AllRup both (negation_of D ∷ []) = one_rup both (negation_of D) (both_step both D x low_there high_there) in
    let P : List (List Lit) → Type 0 = λ H. AllRup H (negation_of D ∷ []) in
    let sides : AllRup G (log_of low ++ log_of high) = AllRup-append (log_of low) (log_of high) G first second in
    (AllRup-append (log_of low ++ log_of high) (negation_of D ∷ []) G sides (subst P (append_assoc G (log_of low) (log_of high)) last), Contains-push (log_of low ++ log_of high) (negation_of D))

module _ (F : List (List Lit)) (vars : ℕ) where
  pub log_is_rup : (order : List ℕ) (D : List Lit) (G : List (List Lit)) → ((c : List Lit) → Contains F c → Contains G c) → HasConflictsAlone (tree F vars order D) → AllRup G (log_of (tree F vars order D)) × Contains (log_of (tree F vars order D)) (negation_of D)
  log_is_rup [] D G part alone =
      let P : Tree → Type 0 = λ t. AllRup G (log_of t) × Contains (log_of t) (negation_of D) in
      ⊎_elim (λ e. subst P (sym (tree-conflicting F vars [] D e)) (log_at_conflict F D G part e)) (λ e. absurd (no_model_alone (values_of F vars D) (subst HasConflictsAlone (tree-model F vars D e) alone))) (cases_Bool (conflicts F D))
  log_is_rup (x ∷ order) D G part alone =
      let P : Tree → Type 0 = λ t. AllRup G (log_of t) × Contains (log_of t) (negation_of D) in
      ⊎_elim (λ e. subst P (sym (tree-conflicting F vars (x ∷ order) D e)) (log_at_conflict F D G part e)) (λ e.
      ⊎_elim (λ has. subst P (sym (tree-skip F vars x order D e has)) (log_is_rup order D G part (subst HasConflictsAlone (tree-skip F vars x order D e has) alone))) (λ lacks.
      let D0 = D ++ literal x false ∷ [] in
      let D1 = D ++ literal x true ∷ [] in
      let low = tree F vars order D0 in
      let high = tree F vars order D1 in
      let both = sides_alone D low high (subst HasConflictsAlone (tree-decided F vars x order D e lacks) alone) in
      let first = log_is_rup order D0 G part both.0 in
      let second = log_is_rup order D1 (G ++ log_of low) (grown F G (log_of low) part) both.1 in
      subst P (sym (tree-decided F vars x order D e lacks)) (log_at_decision D x low high G first.0 first.1 second.0 second.1)) (cases_Bool (has_literal_of F vars D x))) (cases_Bool (conflicts F D))

-- where the empty clause stands

abbrev IsNotEmpty : List Lit → Type 0
IsNotEmpty c = c ≡ [] → ⊥

negation_not_empty : (D : List Lit) → (D ≡ [] → ⊥) → IsNotEmpty (negation_of D)
negation_not_empty [] h e = h refl
negation_not_empty (d ∷ D) h e = cc

pushed_not_empty : (D : List Lit) (l : Lit) → D ++ l ∷ [] ≡ [] → ⊥
pushed_not_empty [] l e = cc
pushed_not_empty (d ∷ D) l e = cc

one_not_empty : (c : List Lit) → IsNotEmpty c → All IsNotEmpty (c ∷ [])
one_not_empty c h = All-cons IsNotEmpty c [] h (All-nil IsNotEmpty)

none_empty_at_conflict : (D : List Lit) → (D ≡ [] → ⊥) → All IsNotEmpty (log_of (conflicting D))
unfolding log_of
none_empty_at_conflict D h = one_not_empty (negation_of D) (negation_not_empty D h)

none_empty_at_model : (vs : List Bool) → All IsNotEmpty (log_of (model vs))
unfolding log_of
none_empty_at_model vs = All-nil IsNotEmpty

none_empty_at_decision : (D : List Lit) (low high : Tree) → (D ≡ [] → ⊥) → All IsNotEmpty (log_of low) → All IsNotEmpty (log_of high) → All IsNotEmpty (log_of (decided D low high))
unfolding log_of
none_empty_at_decision D low high h first second =
    All-append IsNotEmpty (log_of low ++ log_of high) (negation_of D ∷ []) (All-append IsNotEmpty (log_of low) (log_of high) first second) (one_not_empty (negation_of D) (negation_not_empty D h))

empty_at_conflict : EndsEmpty (log_of (conflicting []))
unfolding log_of
empty_at_conflict = record { before = []; last = refl; once = All-nil IsNotEmpty }

empty_at_decision : (low high : Tree) → All IsNotEmpty (log_of low) → All IsNotEmpty (log_of high) → EndsEmpty (log_of (decided [] low high))
unfolding log_of
empty_at_decision low high first second = record {
  before = log_of low ++ log_of high;
  last = refl;
  once = All-append IsNotEmpty (log_of low) (log_of high) first second;
}

module _ (F : List (List Lit)) (vars : ℕ) where
  none_empty_below : (order : List ℕ) (D : List Lit) → (D ≡ [] → ⊥) → All IsNotEmpty (log_of (tree F vars order D))
  none_empty_below [] D h =
      let P : Tree → Type 0 = λ t. All IsNotEmpty (log_of t) in
      ⊎_elim (λ e. subst P (sym (tree-conflicting F vars [] D e)) (none_empty_at_conflict D h)) (λ e. subst P (sym (tree-model F vars D e)) (none_empty_at_model (values_of F vars D))) (cases_Bool (conflicts F D))
  none_empty_below (x ∷ order) D h =
      let P : Tree → Type 0 = λ t. All IsNotEmpty (log_of t) in
      ⊎_elim (λ e. subst P (sym (tree-conflicting F vars (x ∷ order) D e)) (none_empty_at_conflict D h)) (λ e.
      ⊎_elim (λ has. subst P (sym (tree-skip F vars x order D e has)) (none_empty_below order D h)) (λ lacks.
      subst P (sym (tree-decided F vars x order D e lacks)) (none_empty_at_decision D _ _ h (none_empty_below order (D ++ literal x false ∷ []) (pushed_not_empty D (literal x false))) (none_empty_below order (D ++ literal x true ∷ []) (pushed_not_empty D (literal x true))))) (cases_Bool (has_literal_of F vars D x))) (cases_Bool (conflicts F D))

  empty_is_last : (order : List ℕ) → HasConflictsAlone (tree F vars order []) → EndsEmpty (log_of (tree F vars order []))
  empty_is_last [] alone =
      let P : Tree → Type 0 = λ t. EndsEmpty (log_of t) in
      ⊎_elim (λ e. subst P (sym (tree-conflicting F vars [] [] e)) empty_at_conflict) (λ e. absurd (no_model_alone (values_of F vars []) (subst HasConflictsAlone (tree-model F vars [] e) alone))) (cases_Bool (conflicts F []))
  empty_is_last (x ∷ order) alone =
      let P : Tree → Type 0 = λ t. EndsEmpty (log_of t) in
      ⊎_elim (λ e. subst P (sym (tree-conflicting F vars (x ∷ order) [] e)) empty_at_conflict) (λ e.
      ⊎_elim (λ has. subst P (sym (tree-skip F vars x order [] e has)) (empty_is_last order (subst HasConflictsAlone (tree-skip F vars x order [] e has) alone))) (λ lacks.
      subst P (sym (tree-decided F vars x order [] e lacks)) (empty_at_decision _ _ (none_empty_below order (literal x false ∷ []) (pushed_not_empty [] (literal x false))) (none_empty_below order (literal x true ∷ []) (pushed_not_empty [] (literal x true))))) (cases_Bool (has_literal_of F vars [] x))) (cases_Bool (conflicts F []))

-- what a walk logged that came past the tree of a formula
pub log_at_formula : (f : Cnf) (order : List ℕ) (budget m : ℕ) (F : List (List Lit)) (n : ℕ) (D : List Lit) (before after : List (List Lit)) (w : Walked) → F ≡ f.clauses → n ≡ f.vars → D ≡ [] → before ≡ [] → w ≡ Left m → IsWalkOf (tree F n order D) budget before after w → IsRefutation f.clauses after × EndsEmpty after
log_at_formula f order budget m F n D before after w clauses vars none empty is h =
    let t = tree f.clauses f.vars order [] in
    let same : t ≡ tree F n order D = sym (ap (λ x. tree x n order D) clauses ∙ ap (λ x. tree f.clauses x order D) vars ∙ ap (λ x. tree f.clauses f.vars order x) none) in
    let there : IsWalkOf t budget before after (Left m) = at_left t (tree F n order D) budget m before after w same is h in
    let logged : after ≡ log_of t = there.logged ∙ ap (λ x. x ++ log_of t) empty in
    let whole = log_is_rup f.clauses f.vars order [] f.clauses (λ c k. k) (conflicts_alone t budget m (sym there.walked)) in
    let P : List (List Lit) → Type 0 = λ log. IsRefutation f.clauses log × EndsEmpty log in
    let refutes : IsRefutation f.clauses (log_of t) = record { each_step = whole.0; has_empty = whole.1 } in
    let here : P (log_of t) = (refutes, empty_is_last f.clauses f.vars order (conflicts_alone t budget m (sym there.walked))) in
    subst P (sym logged) here
