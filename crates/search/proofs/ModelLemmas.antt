-- The first model of a tree solves the formula, and no solution comes before it.
use Rattle.std.proofs.Common.{◌≡◌, ◌⊎◌, ◌<◌, ℕ, zero, suc, get_or, Bool, true, false, not, List, [], ◌∷◌, ◌++◌, refl, sym, ap, subst, ◌∙◌, inl, inr, ⊎_elim, All, arith}
use Rattle.std.specs.List.{list_any, AllByRecursion}
use Rattle.std.proofs.lemmas.Bool.{cases_Bool, false≢true, true≢false, or_cases, or_left, or_right, or_parts, false_from_ne_true}
use Rattle.std.proofs.lemmas.List.FromFn.{get_or-map-range_with_len}
use Rattle.std.proofs.lemmas.List.Elements.{All-from_recursion, recursion_from_All, Contains-get_or}
use mathlib.Core.Bool.{beq}
use Rattle.cnf.specs.declared.Lit.{Lit}
use Rattle.cnf.specs.Cnf.{Cnf}
use Rattle.cnf.specs.Literals.{negated, among, same}
use Rattle.cnf.specs.Forced.{Within, Forced}
use Rattle.cnf.specs.Rounds.{forced, conflicts}
use Rattle.cnf.specs.Models.{true_in, Solves}
use Rattle.cnf.proofs.SetLemmas.{same-equal, same-refl}
use Rattle.cnf.proofs.ForcedLemmas.{Forced-given, Forced-more, Conflicts-more, among-append_left, among-append_right}
use Rattle.cnf.proofs.RoundsLemmas.{Forced-from_forced, forced_from_Forced, conflicts_from_Conflicts}
use Rattle.cnf.proofs.ModelLemmas.{true_when_forced}
use Rattle.cnf.specs.Cnf.{IsBelow}
use Rattle.search.specs.Tree.{literal, has_literal_of, values_of, tree}
use Rattle.search.specs.Verdict.{Leaf, conflict, values, Walk, found, spent, left, leaves, walk}
use Rattle.search.specs.Models.{assignment, IsAtMost, IsFull, Determines, IsLeastModel}
use Rattle.cnf.proofs.PropagateLemmas.{false_clause_conflicts}
use Rattle.search.proofs.TreeLemmas.{tree-conflicting, tree-model, tree-skip, tree-decided}
use Rattle.search.proofs.WalkLemmas.{walk_on, walk-append}
use Rattle.search.proofs.RefutedLemmas.{conflicts_alone, Within-push, true_literal, unsolved_below}

-- where a walk finds a model in two lists
found_in : (budget : ℕ) (vs : List Bool) (xs ys : List Leaf) → walk budget (xs ++ ys) ≡ found vs → (walk budget xs ≡ found vs) ⊎ ((m : ℕ) × (walk budget xs ≡ left m) × (walk m ys ≡ found vs))
unfolding walk_on
found_in budget vs xs ys e = by_first (walk budget xs) refl (sym (walk-append budget xs ys) ∙ e)
  where
    by_first : (w : Walk) → walk budget xs ≡ w → walk_on w ys ≡ found vs → (walk budget xs ≡ found vs) ⊎ ((m : ℕ) × (walk budget xs ≡ left m) × (walk m ys ≡ found vs))
    by_first (found us) is h = inl (is ∙ h)
    by_first spent is h = absurd (cc)
    by_first (left m) is h = inr (m, is, h)

not_at_conflict : (budget : ℕ) (vs : List Bool) → walk budget (conflict ∷ []) ≡ found vs → ⊥
unfolding walk
not_at_conflict zero vs e = cc
not_at_conflict (suc zero) vs e = cc
not_at_conflict (suc (suc b)) vs e = cc

at_values : (budget : ℕ) (us vs : List Bool) → walk budget (values us ∷ []) ≡ found vs → vs ≡ us
unfolding walk
at_values zero us vs e = absurd (cc)
at_values (suc b) us vs e = cc

beq-same : (a b : Bool) → beq a b ≡ true → a ≡ b
beq-same true true e = refl
beq-same false false e = refl
beq-same true false e = absurd (false≢true e)
beq-same false true e = absurd (false≢true e)

module _ (F : List (List Lit)) (vars : ℕ) where
  more_forced : (D E : List Lit) → Within (among D) (among E) → (l : Lit) → Forced F (among D) l → Forced F (among E) l
  more_forced D E within l h = Forced-more F (among D) (among E) (λ m e. Forced-given F (among E) m (within m e)) l h

  -- the value of a variable whose literal is forced
  value-forced : (D : List Lit) (v : ℕ) (b : Bool) → conflicts F D ≡ false → v < vars → Forced F (among D) (literal v b) → assignment (values_of F vars D) v ≡ b
  value-forced D v true free below h =
      get_or-map-range_with_len (λ x. forced F (among D) (literal x true)) 0 vars v v false below (omega arith) ∙ forced_from_Forced F (among D) (literal v true) h
  value-forced D v false free below h =
      get_or-map-range_with_len (λ x. forced F (among D) (literal x true)) 0 vars v v false below (omega arith) ∙ false_from_ne_true (forced F (among D) (literal v true)) (λ e. true≢false (sym (conflicts_from_Conflicts F D (inr (literal v true, Forced-from_forced F (among D) (literal v true) e, h))) ∙ free))

  -- the literal that a variable has
  literal_forced : (D : List Lit) (v : ℕ) → has_literal_of F vars D v ≡ true → (b : Bool) × Forced F (among D) (literal v b)
  literal_forced D v e =
      ⊎_elim (λ low. (false, Forced-from_forced F (among D) (literal v false) low)) (λ high. (true, Forced-from_forced F (among D) (literal v true) high)) (or_cases (forced F (among D) (literal v false)) (forced F (among D) (literal v true)) e)

  has_from_forced : (D : List Lit) (v : ℕ) (b : Bool) → Forced F (among D) (literal v b) → has_literal_of F vars D v ≡ true
  has_from_forced D v false h = or_left _ _ (forced_from_Forced F (among D) (literal v false) h)
  has_from_forced D v true h = or_right (forced F (among D) (literal v false)) _ (forced_from_Forced F (among D) (literal v true) h)

  value_in : (w : ℕ → Bool) (D : List Lit) (v : ℕ) (b : Bool) → Solves w F → Within (among D) (true_in w) → Forced F (among D) (literal v b) → w v ≡ b
  value_in w D v b solves within h = beq-same (w v) b (true_when_forced F (among D) w solves within (literal v b) h)

  -- the model leaf where a walk ends
  pub record EndsAt (order : List ℕ) (D : List Lit) (vs : List Bool) : Type 0 where
    pub at : List Lit
    pub without_conflict : conflicts F at ≡ false
    pub values_there : vs ≡ values_of F vars at
    pub decided_above : Within (among D) (among at)
    pub has_all : AllByRecursion (λ v. has_literal_of F vars at v ≡ true) order
    pub least : (w : ℕ → Bool) → Solves w F → Within (among D) (true_in w) → IsAtMost order (assignment vs) w

  at_value : (order : List ℕ) (D : List Lit) (vs : List Bool) (h : EndsAt order D vs) (v : ℕ) (b : Bool) → v < vars → Forced F (among D) (literal v b) → assignment vs v ≡ b
  at_value order D vs h v b below f =
      ap (λ x. assignment x v) h.values_there ∙ value-forced h.at v b h.without_conflict below (more_forced D h.at h.decided_above (literal v b) f)

  at_skip : (x : ℕ) (order : List ℕ) (D : List Lit) (vs : List Bool) → x < vars → has_literal_of F vars D x ≡ true → EndsAt order D vs → EndsAt (x ∷ order) D vs
  at_skip x order D vs below has h =
      let one = literal_forced D x has in
      record {
        at = h.at;
        without_conflict = h.without_conflict;
        values_there = h.values_there;
        decided_above = h.decided_above;
        has_all = (has_from_forced h.at x one.0 (more_forced D h.at h.decided_above (literal x one.0) one.1), h.has_all);
        least = λ w solves within. inr (at_value order D vs h x one.0 below one.1 ∙ sym (value_in w D x one.0 solves within one.1), h.least w solves within);
      }

  last_stands : (D : List Lit) (l : Lit) → among (D ++ l ∷ []) l ≡ true
  last_stands D l = among-append_right D (l ∷ []) l (or_left (same l l) false (same-refl l))

  last_forced : (D : List Lit) (l : Lit) → Forced F (among (D ++ l ∷ [])) l
  last_forced D l = Forced-given F (among (D ++ l ∷ [])) l (last_stands D l)

  at_side : (x : ℕ) (b : Bool) (order : List ℕ) (D : List Lit) (vs : List Bool) → (h : EndsAt order (D ++ literal x b ∷ []) vs) → ((w : ℕ → Bool) → Solves w F → Within (among D) (true_in w) → IsAtMost (x ∷ order) (assignment vs) w) → EndsAt (x ∷ order) D vs
  at_side x b order D vs h least = record {
    at = h.at;
    without_conflict = h.without_conflict;
    values_there = h.values_there;
    decided_above = λ l e. h.decided_above l (among-append_left D (literal x b ∷ []) l e);
    has_all = (has_from_forced h.at x b (more_forced (D ++ literal x b ∷ []) h.at h.decided_above (literal x b) (last_forced D (literal x b))), h.has_all);
    least = least;
  }

  pub ends_at : (order : List ℕ) (D : List Lit) (budget : ℕ) (vs : List Bool) → AllByRecursion (λ v. v < vars) order → walk budget (leaves (tree F vars order D)) ≡ found vs → EndsAt order D vs
  unfolding leaves
  ends_at [] D budget vs below e =
      ⊎_elim (λ c. absurd (not_at_conflict budget vs (subst (λ t. walk budget (leaves t) ≡ found vs) (tree-conflicting F vars [] D c) e))) (λ free. record {
        at = D;
        without_conflict = free;
        values_there = at_values budget (values_of F vars D) vs (subst (λ t. walk budget (leaves t) ≡ found vs) (tree-model F vars D free) e);
        decided_above = λ l h. h;
        has_all = tt;
        least = λ w solves within. tt;
      }) (cases_Bool (conflicts F D))
  ends_at (x ∷ order) D budget vs below e =
      ⊎_elim (λ c. absurd (not_at_conflict budget vs (subst (λ t. walk budget (leaves t) ≡ found vs) (tree-conflicting F vars (x ∷ order) D c) e))) (λ free.
      ⊎_elim (λ has. at_skip x order D vs below.0 has (ends_at order D budget vs below.1 (subst (λ t. walk budget (leaves t) ≡ found vs) (tree-skip F vars x order D free has) e))) (λ lacks.
      let D0 = D ++ literal x false ∷ [] in
      let D1 = D ++ literal x true ∷ [] in
      let low = tree F vars order D0 in
      let high = tree F vars order D1 in
      let whole = subst (λ t. walk budget (leaves t) ≡ found vs) (tree-decided F vars x order D free lacks) e in
      ⊎_elim (λ first.
      let h = ends_at order D0 budget vs below.1 first in
      let zero_there = at_value order D0 vs h x false below.0 (last_forced D (literal x false)) in
      at_side x false order D vs h (λ w solves within.
      ⊎_elim (λ one. inl (zero_there, one)) (λ none. inr (zero_there ∙ sym none, h.least w solves (Within-push w D (literal x false) within (true_literal w x false none)))) (cases_Bool (w x)))) (λ later.
      let h = ends_at order D1 later.0 vs below.1 later.2 in
      let one_there = at_value order D1 vs h x true below.0 (last_forced D (literal x true)) in
      at_side x true order D vs h (λ w solves within.
      ⊎_elim (λ one. inr (one_there ∙ sym one, h.least w solves (Within-push w D (literal x true) within (true_literal w x true one)))) (λ none. absurd (unsolved_below F vars w solves order D0 (conflicts_alone low budget later.0 later.1) (Within-push w D (literal x false) within (true_literal w x false none)))) (cases_Bool (w x)))) (found_in budget vs (leaves low) (leaves high) whole)) (cases_Bool (has_literal_of F vars D x))) (cases_Bool (conflicts F D))

  -- a full list of what is forced for the order
  full_of : (order : List ℕ) (D : List Lit) → AllByRecursion (λ v. has_literal_of F vars D v ≡ true) order → (E : List Lit) × IsFull order E × ((l : Lit) → among E l ≡ true → Forced F (among D) l)
  full_of [] D h = ([], tt, λ l e. absurd (false≢true e))
  full_of (v ∷ order) D h =
      let rest = full_of order D h.1 in
      let one = literal_forced D v h.0 in (
        literal v one.0 ∷ rest.0,
        ((one.0, or_left (same (literal v one.0) (literal v one.0)) (among rest.0 (literal v one.0)) (same-refl (literal v one.0))), still_full order rest.0 (literal v one.0) rest.1),
        λ l e.
            ⊎_elim (λ a. subst (Forced F (among D)) (sym (same-equal l (literal v one.0) a)) one.1) (λ b. rest.2 l b) (or_cases (same l (literal v one.0)) (among rest.0 l) e),
      )
    where
      still_full : (os : List ℕ) (E : List Lit) (l : Lit) → IsFull os E → IsFull os (l ∷ E)
      still_full [] E l k = tt
      still_full (o ∷ os) E l k = ((k.0.0, or_right (same (literal o k.0.0) l) (among E (literal o k.0.0)) k.0.1), still_full os E l k.1)

  -- where every variable has a literal and nothing conflicts, the values solve the formula
  pub values_solve : (D : List Lit) → conflicts F D ≡ false → IsBelow vars F → ((v : ℕ) → v < vars → (b : Bool) × Forced F (among D) (literal v b)) → Solves (assignment (values_of F vars D)) F
  values_solve D free below each k d k_below =
      let c = get_or F k d in
      let a = assignment (values_of F vars D) in
      ⊎_elim (λ yes. yes) (λ no.
      let all_false : AllByRecursion (λ m. forced F (among D) (negated m) ≡ true) c = each_false c (recursion_from_All (λ l. l.var < vars) c (below k d k_below)) no in
      absurd (true≢false (sym (conflicts_from_Conflicts F D (false_clause_conflicts F (among D) (forced F (among D)) (λ m e. Forced-from_forced F (among D) m e) c (Contains-get_or F k d k_below) (All-from_recursion (λ m. forced F (among D) (negated m) ≡ true) c all_false))) ∙ free))) (cases_Bool (list_any (true_in a) c))
    where
      opposite : (x b p : Bool) → x ≡ b → beq x p ≡ false → b ≡ not p
      opposite true b true is e = absurd (true≢false e)
      opposite true b false is e = sym is
      opposite false b true is e = sym is
      opposite false b false is e = absurd (true≢false e)

      one_false : (l : Lit) → l.var < vars → true_in (assignment (values_of F vars D)) l ≡ false → forced F (among D) (negated l) ≡ true
      one_false l in_range e =
          let one = each l.var in_range in
          let is = value-forced D l.var one.0 free in_range one.1 in
          forced_from_Forced F (among D) (negated l) (subst (λ b. Forced F (among D) (literal l.var b)) (opposite (assignment (values_of F vars D) l.var) one.0 l.positive is e) one.1)

      each_false : (ls : List Lit) → AllByRecursion (λ l. l.var < vars) ls → list_any (true_in (assignment (values_of F vars D))) ls ≡ false → AllByRecursion (λ m. forced F (among D) (negated m) ≡ true) ls
      each_false [] in_range e = tt
      each_false (l ∷ ls) in_range e =
          let both = or_parts (true_in (assignment (values_of F vars D)) l) (list_any (true_in (assignment (values_of F vars D))) ls) e in
          (one_false l in_range.0 both.0, each_false ls in_range.1 both.1)

pub model_is_least : (f : Cnf) (order : List ℕ) (budget : ℕ) (vs : List Bool) → IsBelow f.vars f.clauses → All (λ v. v < f.vars) order → Determines f order → walk budget (leaves (tree f.clauses f.vars order [])) ≡ found vs → IsLeastModel f order vs
model_is_least f order budget vs below in_order determines e =
    let F = f.clauses in
    let h = ends_at F f.vars order [] budget vs (recursion_from_All (λ v. v < f.vars) order in_order) e in
    let full = full_of F f.vars order h.at h.has_all in
    let each : (v : ℕ) → v < f.vars → (b : Bool) × Forced F (among h.at) (literal v b) =
    ⊎_elim (λ c. absurd (true≢false (sym (conflicts_from_Conflicts F h.at (Conflicts-more F (among full.0) (among h.at) full.2 c)) ∙ h.without_conflict))) (λ all v k. let one = all v k in (one.0, Forced-more F (among full.0) (among h.at) full.2 (literal v one.0) one.1)) (determines full.0 full.1) in
    record {
      solves = subst (λ x. Solves (assignment x) F) (sym h.values_there) (values_solve F f.vars h.at h.without_conflict below each);
      least = λ w solves. h.least w solves (λ l none. absurd (false≢true none));
    }
