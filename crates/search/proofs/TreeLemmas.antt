-- The tree at an assignment that propagation closed.
use Rattle.std.proofs.Common.{◌≡◌, ◌↔◌, ◌<◌, ℕ, get_or, set, map, Bool, true, false, ◌||◌, is_some, Option, Some, None, List, [], ◌∷◌, ◌++◌, length, refl, sym, ap₂, subst, ◌∙◌, ⊎_elim, arith}
use Rattle.std.proofs.lemmas.Bool.{or_cases, or_left, false≢true, cond-true, cond-false}
use Rattle.std.proofs.lemmas.List.{get_or-map, length-map}
use Rattle.std.proofs.lemmas.List.FromFn.{fill_by_all}
use Rattle.cnf.specs.declared.Lit.{Lit}
use Rattle.cnf.specs.Literals.{same, among, is_value, holds_of}
use Rattle.cnf.specs.Forced.{Forced, Conflicts}
use Rattle.cnf.specs.Rounds.{forced, conflicts}
use Rattle.cnf.proofs.SetLemmas.{same-equal, same-refl}
use Rattle.cnf.proofs.ForcedLemmas.{Forced-given, Forced-more, Conflicts-more, among-append_left, among-append_right, among-append_cases}
use Rattle.cnf.proofs.RoundsLemmas.{Forced-from_forced, forced_from_Forced, Conflicts-from_conflicts, conflicts_from_Conflicts}
use Rattle.cnf.specs.Forced.{IsLeastClosed}
use Rattle.search.specs.Tree.{conflicting, model, decided, literal, has_literal_of, values_of, tree}
use Rattle.search.specs.Walks.{IsReached, ClosesTo}
use Rattle.std.proofs.Common.{◌≤◌, take, drop, append-nil, take_all}
use Rattle.std.proofs.lemmas.List.{drop_all}
use Rattle.cnf.proofs.PropagateLemmas.{holds-set_cases, holds-set_same, holds-set_keeps}

same_tests : (a b : Bool) → (a ≡ true → b ≡ true) → (b ≡ true → a ≡ true) → a ≡ b
same_tests true b f g = sym (f refl)
same_tests false true f g = absurd (false≢true (g refl))
same_tests false false f g = refl

-- the tree, case by case

pub tree-conflicting : (F : List (List Lit)) (vars : ℕ) (order : List ℕ) (D : List Lit) → conflicts F D ≡ true → tree F vars order D ≡ conflicting D
unfolding tree
tree-conflicting F vars [] D e = cond-true (conflicts F D) _ _ e
tree-conflicting F vars (v ∷ order) D e = cond-true (conflicts F D) _ _ e

pub tree-model : (F : List (List Lit)) (vars : ℕ) (D : List Lit) → conflicts F D ≡ false → tree F vars [] D ≡ model (values_of F vars D)
unfolding tree
tree-model F vars D e = cond-false (conflicts F D) _ _ e

pub tree-skip : (F : List (List Lit)) (vars v : ℕ) (order : List ℕ) (D : List Lit) → conflicts F D ≡ false → has_literal_of F vars D v ≡ true → tree F vars (v ∷ order) D ≡ tree F vars order D
unfolding tree
tree-skip F vars v order D e h = cond-false (conflicts F D) _ _ e ∙ cond-true (has_literal_of F vars D v) _ _ h

pub tree-decided : (F : List (List Lit)) (vars v : ℕ) (order : List ℕ) (D : List Lit) → conflicts F D ≡ false → has_literal_of F vars D v ≡ false → tree F vars (v ∷ order) D ≡ decided D (tree F vars order (D ++ literal v false ∷ [])) (tree F vars order (D ++ literal v true ∷ []))
unfolding tree
tree-decided F vars v order D e h = cond-false (conflicts F D) _ _ e ∙ cond-false (has_literal_of F vars D v) _ _ h

-- what propagation from a reached assignment says

module _ (F : List (List Lit)) (D : List Lit) (before : List (Option Bool)) (reached : IsReached F D before) where
  from_decisions : (l : Lit) → Forced F (among D) l → Forced F (holds_of before) l
  from_decisions l h = Forced-more F (among D) (holds_of before) (λ m e. Forced-given F (holds_of before) m (reached.given m e)) l h

  pub conflict_is_conflicts : (r : Bool) → (r ≡ true) ↔ Conflicts F (holds_of before) → r ≡ conflicts F D
  conflict_is_conflicts r h =
      same_tests r (conflicts F D) (λ e. conflicts_from_Conflicts F D (Conflicts-more F (holds_of before) (among D) reached.forced_alone (h.0 e))) (λ e. h.1 (Conflicts-more F (among D) (holds_of before) (λ m k. Forced-given F (holds_of before) m (reached.given m k)) (Conflicts-from_conflicts F D e)))

  module _ (after : List (Option Bool)) (closed : IsLeastClosed F (holds_of before) (holds_of after)) where
    pub is_forced : (l : Lit) → holds_of after l ≡ true → Forced F (among D) l
    is_forced l e = Forced-more F (holds_of before) (among D) reached.forced_alone l ((closed l).0 e)

    pub holds-forced : (l : Lit) → holds_of after l ≡ forced F (among D) l
    holds-forced l =
        same_tests (holds_of after l) (forced F (among D) l) (λ e. forced_from_Forced F (among D) l (is_forced l e)) (λ e. (closed l).1 (from_decisions l (Forced-from_forced F (among D) l e)))

    pub reached_after : IsReached F D after
    reached_after = record {
      given = λ l e. (closed l).1 (Forced-given F (holds_of before) l (reached.given l e));
      forced_alone = is_forced;
    }

    pub has_literal-is : (vars v : ℕ) → has_literal_of F vars D v ≡ is_some (get_or after v None)
    has_literal-is vars v =
        ap₂ (λ a b. a || b) (sym (holds-forced (literal v false))) (sym (holds-forced (literal v true))) ∙ either_value (get_or after v None)
      where
        either_value : (o : Option Bool) → (is_value o false || is_value o true) ≡ is_some o
        either_value None = refl
        either_value (Some true) = refl
        either_value (Some false) = refl

    pub values-are : map (λ o. is_value o true) after ≡ values_of F (length after) D
    values-are =
        fill_by_all (λ v. forced F (among D) (literal v true)) (map (λ o. is_value o true) after) (length after) false (length-map after (λ o. is_value o true)) (λ k below. get_or-map (λ o. is_value o true) after k None false below ∙ holds-forced (literal k true))

-- one decision more
pub reached_below : (F : List (List Lit)) (D : List Lit) (b : List (Option Bool)) (l : Lit) → IsReached F D b → l.var < length b → get_or b l.var None ≡ None → IsReached F (D ++ l ∷ []) (set b l.var (Some l.positive))
reached_below F D b l reached below none = record {
  given = λ m e. ⊎_elim (λ x. holds-set_keeps b l m below none (reached.given m x)) (λ y. subst (λ x. holds_of (set b l.var (Some l.positive)) x ≡ true) (sym (last_is m y)) (holds-set_same b l below)) (among-append_cases D (l ∷ []) m e);
  forced_alone = λ m e. ⊎_elim (λ is. subst (Forced F (among (D ++ l ∷ []))) (sym is) (Forced-given F (among (D ++ l ∷ [])) l (among-append_right D (l ∷ []) l (last_among l)))) (λ was. Forced-more F (among D) (among (D ++ l ∷ [])) (λ x k. Forced-given F (among (D ++ l ∷ [])) x (among-append_left D (l ∷ []) x k)) m (reached.forced_alone m was)) (holds-set_cases b l m below e);
}
  where
    last_is : (m : Lit) → among (l ∷ []) m ≡ true → m ≡ l
    last_is m e = ⊎_elim (λ a. same-equal m l a) (λ b. absurd (false≢true b)) (or_cases (same m l) false e)

    last_among : (m : Lit) → among (m ∷ []) m ≡ true
    last_among m = or_left (same m m) false (same-refl m)

-- a list written over one as long
pub written : (new old : List (Option Bool)) (n : ℕ) → length new ≡ n → length old ≡ n → take n (new ++ drop (length new) old) ≡ new
written new old n long old_long =
    let short : length old ≤ length new = omega arith in
    let whole : length new ≤ n = omega arith in
    rw (drop_all (length new) old short, append-nil new) (take_all n new whole)

pub closes_to : (F : List (List Lit)) (assigned before after : List (Option Bool)) → before ≡ assigned → length after ≡ length before → (false ≡ true) ↔ Conflicts F (holds_of before) → IsLeastClosed F (holds_of before) (holds_of after) → ClosesTo F assigned after
closes_to F assigned before after e long conflict least =
    let P : List (Option Bool) → Type 0 = λ x. ClosesTo F x after in
    let here : ClosesTo F before after = record {
      length_stays = long;
      no_conflict = λ h. false≢true (conflict.1 h);
      least = least;
    } in subst P e here
