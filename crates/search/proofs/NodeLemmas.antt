-- The steps of the walk at one node.
use Rattle.std.proofs.Common.{◌≡◌, ◌<◌, ◌≤◌, ◌-◌, ℕ, get_or, set, map, take, drop, Bool, true, false, is_some, Option, Some, None, List, [], ◌∷◌, ◌++◌, length, refl, sym, ap, subst, ◌∙◌, arith, take_all, length-set, ap₂, All, Vec, Global, Result, Ok, Err, IfOk, OnOk}
use Rattle.std.proofs.lemmas.Bool.{false≢true, true≢false}
use Rattle.std.proofs.lemmas.List.{get_or_default}
use Rattle.std.proofs.lemmas.List.Elements.{All-take, All-drop}
use Rattle.std.specs.declared.alloc.AllocError.{AllocError}
use Rattle.cnf.specs.declared.Lit.{Lit}
use Rattle.cnf.specs.Literals.{is_value, holds_of}
use Rattle.cnf.specs.Forced.{Conflicts}
use Rattle.cnf.specs.Rounds.{conflicts}
use Rattle.cnf.proofs.ForcedLemmas.{Forced-given, Forced-more, Conflicts-more}
use Rattle.cnf.specs.Cnf.{IsBelow}
use Rattle.search.specs.Tree.{Tree, model, decided, literal, values_of, tree, negation_of}
use Rattle.search.specs.Walks.{IsReached, IsClosure, ClosesTo, IsWalkOf, LogsWhere}
use Rattle.search.specs.declared.Walked.{Walked}
use Rattle.search.specs.declared.Walked.TheVariants.{Found, Spent, Left}
use Rattle.search.proofs.TreeLemmas.{tree-model, tree-skip, tree-decided, conflict_is_conflicts, reached_after, has_literal-is, values-are, reached_below}
use Rattle.search.proofs.WalkLemmas.{walk_of_same, at_model, ends_high, ends_both}

-- the answer of `closure`

pub closure_none : (F : List (List Lit)) (D : List Lit) (a : List (Option Bool)) (o : Option (Vec (Option Bool) Global)) → IsReached F D a → IsClosure F a o → o ≡ None → conflicts F D ≡ true
closure_none F D a o reached h e =
    let P : Option (Vec (Option Bool) Global) → Type 0 = IsClosure F a in
    let conflict : Conflicts F (holds_of a) = subst P e h in
    sym (conflict_is_conflicts F D a reached true (λ _. conflict, λ _. refl))

pub closure_some : (F : List (List Lit)) (a b : List (Option Bool)) (o : Option (Vec (Option Bool) Global)) (v : Vec (Option Bool) Global) → IsClosure F a o → o ≡ Some v → b ≡ v.items → ClosesTo F a b
closure_some F a b o v h e same =
    let P : Option (Vec (Option Bool) Global) → Type 0 = IsClosure F a in
    let closes : ClosesTo F a v.items = subst P e h in
    let Q : List (Option Bool) → Type 0 = ClosesTo F a in
    subst Q (sym same) closes

-- an assignment that propagation closed has nothing more to close
pub closed_already : (F : List (List Lit)) (a b : List (Option Bool)) → ClosesTo F a b → ClosesTo F b b
closed_already F a b h = record {
  length_stays = refl;
  no_conflict = λ k. h.no_conflict (Conflicts-more F (holds_of b) (holds_of a) (λ l e. (h.least l).0 e) k);
  least = λ l. (λ e. Forced-given F (holds_of b) l e, λ k. (h.least l).1 (Forced-more F (holds_of b) (holds_of a) (λ m e. (h.least m).0 e) l k));
}

none_from_some : (o : Option (Vec (Option Bool) Global)) → ((v : Vec (Option Bool) Global) → o ≡ Some v → ⊥) → o ≡ None
none_from_some None h = refl
none_from_some (Some v) h = absurd (h v refl)

-- the order as its first variable and the rest

pub opened : (order : List ℕ) → 1 ≤ length order → order ≡ get_or order 0 0 ∷ take (length order - 1) (drop 1 order)
opened [] h = absurd (omega arith)
opened (v ∷ order) h =
    let whole : length order ≤ length (v ∷ order) - 1 = omega arith in
    ap (λ x. v ∷ x) (sym (take_all (length (v ∷ order) - 1) order whole))

empty_order : (order : List ℕ) → length order < 1 → order ≡ []
empty_order [] h = refl
empty_order (v ∷ order) h = absurd (omega arith)

pub value_at : (b : List (Option Bool)) (v : ℕ) (r : Option Bool) (t : Bool) → v < length b → r ≡ get_or b v r → t ≡ is_some r → is_some (get_or b v None) ≡ t
value_at b v r t below is tested = ap is_some (get_or_default b v None r below ∙ sym is) ∙ sym tested

none_of : (o : Option Bool) → is_some o ≡ false → o ≡ None
none_of None e = refl
none_of (Some b) e = absurd (true≢false e)

module _ (F : List (List Lit)) (D : List Lit) (a b : List (Option Bool)) (reached : IsReached F D a) (closes : ClosesTo F a b) where
  pub no_conflicts : conflicts F D ≡ false
  no_conflicts =
      sym (conflict_is_conflicts F D a reached false (λ e. absurd (false≢true e), λ h. absurd (closes.no_conflict h)))

  -- what each side of a decision asks
  pub side_may : (order : List ℕ) → 1 ≤ length order → IsBelow (length a) F → All (λ v. v < length a) order → is_some (get_or b (get_or order 0 0) None) ≡ false → IsBelow (length b) F × (All (λ v. v < length b) (take (length order - 1) (drop 1 order)) × ((get_or order 0 0 < length b) × ((get_or b (get_or order 0 0) None ≡ None) × IsReached F D b)))
  side_may order some below all free =
      let P : ℕ → Type 0 = λ n. IsBelow n F in
      let Q : ℕ → Type 0 = λ n. All (λ v. v < n) order in
      let all_b : All (λ v. v < length b) order = subst Q (sym closes.length_stays) all in (
        subst P (sym closes.length_stays) below,
        (
          All-take (λ v. v < length b) (length order - 1) (drop 1 order) (All-drop (λ v. v < length b) 1 order all_b),
          (all_b 0 0 some, (none_of (get_or b (get_or order 0 0) None) free, reached_after F D a reached b closes.least)),
        ),
      )

  -- what a walk on the closed assignment asks
  pub enter_may : (order : List ℕ) → IsBelow (length a) F → All (λ v. v < length a) order → IsBelow (length b) F × (All (λ v. v < length b) order × (IsReached F D b × ClosesTo F b b))
  enter_may order below all =
      let P : ℕ → Type 0 = λ n. IsBelow n F in
      let Q : ℕ → Type 0 = λ n. All (λ v. v < n) order in
      (subst P (sym closes.length_stays) below, (subst Q (sym closes.length_stays) all, (reached_after F D a reached b closes.least, closed_already F a b closes)))

  pub skip_may : (order : List ℕ) → IsBelow (length a) F → All (λ v. v < length a) order → IsBelow (length b) F × (All (λ v. v < length b) (take (length order - 1) (drop 1 order)) × (IsReached F D b × ClosesTo F b b))
  skip_may order below all =
      let whole = enter_may order below all in
      (whole.0, (All-take (λ v. v < length b) (length order - 1) (drop 1 order) (All-drop (λ v. v < length b) 1 order whole.1.0), whole.1.1))

  pub same_tree : (order : List ℕ) (E : List Lit) → tree F (length a) order E ≡ tree F (length b) order E
  same_tree order E = ap (λ n. tree F n order E) (sym closes.length_stays)

  pub node_skip : (order : List ℕ) → 1 ≤ length order → is_some (get_or b (get_or order 0 0) None) ≡ true → tree F (length a) order D ≡ tree F (length b) (take (length order - 1) (drop 1 order)) D
  node_skip order some has =
      ap (λ x. tree F (length a) x D) (opened order some) ∙ tree-skip F (length a) (get_or order 0 0) (take (length order - 1) (drop 1 order)) D no_conflicts (has_literal-is F D a reached b closes.least (length a) (get_or order 0 0) ∙ has) ∙ same_tree (take (length order - 1) (drop 1 order)) D

  -- the tree under one decision more
  abbrev pub under : List ℕ → Bool → Tree
  under order sign = tree F (length b) (take (length order - 1) (drop 1 order)) (D ++ literal (get_or order 0 0) sign ∷ [])

  pub node_decided : (order : List ℕ) → 1 ≤ length order → is_some (get_or b (get_or order 0 0) None) ≡ false → tree F (length a) order D ≡ decided D (under order false) (under order true)
  node_decided order some free =
      let rest = take (length order - 1) (drop 1 order) in
      ap (λ x. tree F (length a) x D) (opened order some) ∙ tree-decided F (length a) (get_or order 0 0) rest D no_conflicts (has_literal-is F D a reached b closes.least (length a) (get_or order 0 0) ∙ free) ∙ ap (λ n. decided D (tree F n rest (D ++ literal (get_or order 0 0) false ∷ [])) (tree F n rest (D ++ literal (get_or order 0 0) true ∷ []))) (sym closes.length_stays)

  pub node_model : (order : List ℕ) (vs : Vec Bool Global) (budget : ℕ) (log : List (List Lit)) → length order < 1 → 1 ≤ budget → vs.items ≡ map (λ o. is_value o true) b → IsWalkOf (tree F (length a) order D) budget log log (Found vs)
  node_model order vs budget log none some is =
      walk_of_same (tree F (length a) order D) (model (values_of F (length b) D)) budget log log (Found vs) (ap (λ x. tree F (length a) x D) (empty_order order none) ∙ tree-model F (length a) D no_conflicts ∙ ap (λ n. model (values_of F n D)) (sym closes.length_stays)) (at_model vs (values_of F (length b) D) budget log log some (is ∙ values-are F D a reached b closes.least))

-- what a walk under one decision more asks
pub under_may : (F : List (List Lit)) (D E : List Lit) (b c : List (Option Bool)) (l : Lit) (order : List ℕ) → IsBelow (length b) F → All (λ v. v < length b) order → l.var < length b → get_or b l.var None ≡ None → IsReached F D b → c ≡ set b l.var (Some l.positive) → E ≡ D ++ l ∷ [] → IsBelow (length c) F × (All (λ v. v < length c) order × IsReached F E c)
under_may F D E b c l order below all in_range none reached is E_is =
    let long : length b ≡ length c = sym (ap length is ∙ length-set b l.var (Some l.positive)) in
    let P : ℕ → Type 0 = λ n. IsBelow n F in
    let Q : ℕ → Type 0 = λ n. All (λ v. v < n) order in
    let R : List (Option Bool) → Type 0 = λ x. IsReached F (D ++ l ∷ []) x in
    let S : List Lit → Type 0 = λ x. IsReached F x c in
    (subst P long below, (subst Q long all, subst S (sym E_is) (subst R (sym is) (reached_below F D b l reached in_range none))))

pub under_length : (F : List (List Lit)) (b c : List (Option Bool)) (l : Lit) (order : List ℕ) (D E : List Lit) → c ≡ set b l.var (Some l.positive) → E ≡ D ++ l ∷ [] → tree F (length b) order (D ++ l ∷ []) ≡ tree F (length c) order E
under_length F b c l order D E is E_is =
    ap₂ (λ n x. tree F n order x) (sym (ap length is ∙ length-set b l.var (Some l.positive))) (sym E_is)

-- after both sides

closes_node : (D : List Lit) (low high : Tree) (budget n : ℕ) (before between after last : List (List Lit)) (w : Walked) → IsWalkOf low budget before between (Left n) → IsWalkOf high n between after w → LogsWhere w (last ≡ after ++ negation_of D ∷ []) → IsWalkOf (decided D low high) budget before last w
closes_node D low high budget n before between after last (Found vs) first second h =
    let whole = ends_high D low high budget n before between after (Found vs) first second (λ m e. absurd (cc)) in
    record { walked = whole.walked; logged = tt }
closes_node D low high budget n before between after last Spent first second h =
    let whole = ends_high D low high budget n before between after Spent first second (λ m e. absurd (cc)) in
    record { walked = whole.walked; logged = tt }
closes_node D low high budget n before between after last (Left m) first second h =
    ends_both D low high budget n m before between after last first second h

pub closed_by : (t : Tree) (D : List Lit) (low high : Tree) (budget n : ℕ) (before between after last : List (List Lit)) (w : Walked) (r : Result Walked AllocError) → t ≡ decided D low high → IsWalkOf low budget before between (Left n) → IsWalkOf high n between after w → IfOk r (λ x. x ≡ w) → OnOk r (LogsWhere w (last ≡ after ++ negation_of D ∷ [])) → IfOk r (IsWalkOf t budget before last)
closed_by t D low high budget n before between after last w (Ok x) e first second same logged =
    let P : Walked → Type 0 = IsWalkOf t budget before last in
    subst P (sym same) (walk_of_same t (decided D low high) budget before last w e (closes_node D low high budget n before between after last w first second logged))
closed_by t D low high budget n before between after last w (Err x) e first second same logged = tt

pub at_left : (t u : Tree) (budget n : ℕ) (before after : List (List Lit)) (w : Walked) → t ≡ u → w ≡ Left n → IsWalkOf u budget before after w → IsWalkOf t budget before after (Left n)
at_left t u budget n before after w e is h =
    let P : Walked → Type 0 = IsWalkOf t budget before after in subst P is (walk_of_same t u budget before after w e h)

pub walk_result_same : (t u : Tree) (budget : ℕ) (before after : List (List Lit)) (r : Result Walked AllocError) → t ≡ u → IfOk r (IsWalkOf u budget before after) → IfOk r (IsWalkOf t budget before after)
walk_result_same t u budget before after (Ok w) e h = walk_of_same t u budget before after w e h
walk_result_same t u budget before after (Err x) e h = tt
