-- What tests and choices of ways give splits the inputs that meet a state's condition, and keeps the least ones.
use Rattle.std.proofs.Common.{◌≡◌, ℕ, Bool, true, false, ◌&&◌, ◌==◌, ◌+◌, List, [], ◌∷◌, ◌++◌, length, Some, None, refl, sym, ◌∙◌, ap, subst, zero-add, add_assoc}
use Rattle.std.specs.Prelude.{cond, nat_lt}
use Rattle.std.proofs.Math.Nat.{add-zero}
use Rattle.terms.specs.Tree.{Tree}
use Rattle.terms.specs.Value.{is_met_by, are_met_by}
use Rattle.terms.proofs.Folds.{both}
use Rattle.term_store.specs.Condition.{answer, negation}
use Rattle.term_store.specs.declared.conditions.Added.{Added}
use Rattle.term_store.specs.declared.conditions.Added.TheVariants.{Held, Appended, Contradicted}
use Rattle.term_store.proofs.Meets.{meets_also}
use Rattle.leaves.specs.declared.options.Cause.TheVariants.{Shares}
use Rattle.leaves.specs.Events.{told_of}
use Rattle.leaves.specs.Fitting.{IsTermOf, AreTermsOf}
use Rattle.sym_states.specs.Sides.{Offspring, Lives, Spends, by_verdict, offspring_of, offsprings, held_side, Offer, Alone, Several, alone, offer, share_of, children_of, forks, stays, Tested, Good, Bad, Answered, tested, test, taken, choose_way}
use Rattle.sym_states.specs.Splitting.{is_met, met_count}
use Rattle.sym_states.specs.States.{State, Context, Child, Go, Stop, Step, Goes, Forks, Needs, Ends, Flow, On, Over, opens}
use Rattle.sym_states.specs.Verdicts.{Verdict, Sat, Unsat, Spent}
use Rattle.sym_states.proofs.Widths.{negation-fits, terms-append}
use Rattle.state_laws.specs.Kept.{StateFitsAt}
use Rattle.state_laws.proofs.States.{parts_of}
use Rattle.agreement.proofs.Values.{both-true}
use Rattle.right_leaves.specs.Right.{IsLeast, KeepsLeast, AreRightVerdicts}
use Rattle.right_leaves.proofs.Counts.{one_if, met_sides, AreSides, both-sides}

-- ---- what is kept along an attempt

-- the input meets the state's condition as often as it is to, and what is kept is the least input that does
abbrev pub Keeps : ℕ → List ℕ → ℕ → State → Type 0
Keeps n i k s = (one_if (are_met_by i s.condition) ≡ k) × IsLeast n s.condition s.kept

abbrev pub met_child : List ℕ → Child → ℕ
met_child i (Go s) = one_if (are_met_by i s.condition)
met_child i (Stop l) = one_if (are_met_by i (told_of l).condition)

-- how many of the children an input meets
abbrev pub met_children : List ℕ → List Child → ℕ
met_children i [] = 0
met_children i (c ∷ cs) = met_child i c + met_children i cs

abbrev pub ChildLeast : ℕ → Child → Type 0
ChildLeast n (Go s) = IsLeast n s.condition s.kept
ChildLeast n (Stop l) = KeepsLeast n l

abbrev pub ChildrenLeast : ℕ → List Child → Type 0
ChildrenLeast n [] = Unit {0}
ChildrenLeast n (c ∷ cs) = ChildLeast n c × ChildrenLeast n cs

-- the input meets so many of what is given, and what these keep is the least
abbrev pub StepKeeps : ℕ → List ℕ → ℕ → Step → Type 0
StepKeeps n i k (Goes s) = Keeps n i k s
StepKeeps n i k (Forks cs) = (met_children i cs ≡ k) × ChildrenLeast n cs
StepKeeps n i k (Needs s calls) = Keeps n i k s
StepKeeps n i k (Ends l) = (one_if (are_met_by i (told_of l).condition) ≡ k) × KeepsLeast n l

-- a part goes on with a state that keeps both, or its answer does
abbrev pub FlowKeeps : {A : Type 0} → ℕ → List ℕ → ℕ → (A → State) → Flow A → Type 0
FlowKeeps n i k state (On x) = Keeps n i k (state x)
FlowKeeps n i k state (Over step) = StepKeeps n i k step

abbrev pub TestedKeeps : ℕ → List ℕ → ℕ → Tested → Type 0
TestedKeeps n i k (Good s) = Keeps n i k s
TestedKeeps n i k (Bad s) = Keeps n i k s
TestedKeeps n i k (Answered step) = StepKeeps n i k step

abbrev OffspringsLeast : ℕ → List Offspring → Type 0
OffspringsLeast n [] = Unit {0}
OffspringsLeast n (Lives side condition kept ∷ os) = IsLeast n condition kept × OffspringsLeast n os
OffspringsLeast n (Spends condition ∷ os) = OffspringsLeast n os

abbrev OfferKeeps : ℕ → List ℕ → ℕ → Offer → Type 0
OfferKeeps n i k (Alone side t) = Keeps n i k t
OfferKeeps n i k (Several os) = (met_count i os ≡ k) × OffspringsLeast n os

-- what takes a side leaves the condition and the kept input
abbrev pub IsSteady : (ℕ → State → State) → Type 0
IsSteady take = (side : ℕ) (t : State) → ((take side t).condition ≡ t.condition) × ((take side t).kept ≡ t.kept)

-- ---- lists of offsprings

count-append : (i : List ℕ) (os ps : List Offspring) → met_count i (os ++ ps) ≡ met_count i os + met_count i ps
count-append i [] ps = sym (zero-add (met_count i ps))
count-append i (o ∷ os) ps = ap (λ m. one_if (is_met i o) + m) (count-append i os ps) ∙ sym (add_assoc (one_if (is_met i o)) (met_count i os) (met_count i ps))

least-append : (n : ℕ) (os ps : List Offspring) → OffspringsLeast n os → OffspringsLeast n ps → OffspringsLeast n (os ++ ps)
least-append n [] ps h k = k
least-append n (Lives side condition kept ∷ os) ps h k = (h.0, least-append n os ps h.1 k)
least-append n (Spends condition ∷ os) ps h k = least-append n os ps h k

verdict-count : (i : List ℕ) (v : Verdict) (side : ℕ) (condition : List Tree) → (v ≡ Unsat → are_met_by i condition ≡ false) → met_count i (by_verdict v side condition) ≡ one_if (are_met_by i condition)
verdict-count i (Sat input) side condition right = add-zero _
verdict-count i Spent side condition right = add-zero _
verdict-count i Unsat side condition right = ap one_if (sym (right refl))

verdict-least : (n : ℕ) (v : Verdict) (side : ℕ) (condition : List Tree) → ((input : List ℕ) → v ≡ Sat input → IsLeast n condition input) → OffspringsLeast n (by_verdict v side condition)
verdict-least n (Sat input) side condition right = (right input refl, tt)
verdict-least n Unsat side condition right = tt
verdict-least n Spent side condition right = tt

count-if : (i : List ℕ) (b : Bool) (os ps : List Offspring) (k : ℕ) → met_count i os ≡ k → met_count i ps ≡ k → met_count i (elim b [ true ↦ os | false ↦ ps ]) ≡ k
count-if i true os ps k h g = h
count-if i false os ps k h g = g

least-if : (n : ℕ) (b : Bool) (os ps : List Offspring) → (b ≡ true → OffspringsLeast n os) → OffspringsLeast n ps → OffspringsLeast n (elim b [ true ↦ os | false ↦ ps ])
least-if n true os ps h g = h refl
least-if n false os ps h g = g

-- the input that is kept meets the conjunct too, so it stays the least
kept-least : (n : ℕ) (condition more : List Tree) (t : Tree) (kept : List ℕ) → ((input : List ℕ) → are_met_by input more ≡ (are_met_by input condition && is_met_by input t)) → IsLeast n condition kept → is_met_by kept t ≡ true → IsLeast n more kept
kept-least n condition more t kept also h met = record {
  fits = h.fits;
  met = also kept ∙ both-true (are_met_by kept condition) (is_met_by kept t) h.met met;
  least = λ input is meets. h.least input is (both (are_met_by input condition) (is_met_by input t) (sym (also input) ∙ meets)).0;
}

steady-least : (n : ℕ) (u t : State) → u.condition ≡ t.condition → u.kept ≡ t.kept → IsLeast n t.condition t.kept → IsLeast n u.condition u.kept
steady-least n u t p q h = subst (λ condition. IsLeast n condition u.kept) (sym p) (subst (λ kept. IsLeast n t.condition kept) (sym q) h)

-- ---- children

children-count : (i : List ℕ) (take : ℕ → State → State) (s : State) (k j : ℕ) (os : List Offspring) → IsSteady take → met_children i (children_of take s k j os) ≡ met_count i os
children-count i take s k j [] steady = refl
children-count i take s k j (Lives side condition kept ∷ os) steady =
    ap (λ m. m + met_children i (children_of take s k (j + 1) os)) (ap (λ x. one_if (are_met_by i x)) (steady side _).0)
    ∙ ap (λ m. one_if (are_met_by i condition) + m) (children-count i take s k (j + 1) os steady)
children-count i take s k j (Spends condition ∷ os) steady = ap (λ m. one_if (are_met_by i condition) + m) (children-count i take s k (j + 1) os steady)

children-least : (n : ℕ) (take : ℕ → State → State) (s : State) (k j : ℕ) (os : List Offspring) → IsSteady take → OffspringsLeast n os → ChildrenLeast n (children_of take s k j os)
children-least n take s k j [] steady h = tt
children-least n take s k j (Lives side condition kept ∷ os) steady h =
    let t = record s { condition = condition; kept = kept; shares = share_of s.shares k j } in
    (steady-least n (take side t) t (steady side t).0 (steady side t).1 h.0, children-least n take s k (j + 1) os steady h.1)
children-least n take s k j (Spends condition ∷ os) steady h = (tt, children-least n take s k (j + 1) os steady h)

forks-keeps : (n : ℕ) (i : List ℕ) (k : ℕ) (take : ℕ → State → State) (s : State) (os : List Offspring) → IsSteady take → Keeps n i k s → met_count i os ≡ k → OffspringsLeast n os → StepKeeps n i k (forks take s os)
forks-keeps n i k take s os steady keeps counts least =
    elim (nat_lt s.shares (length os)) as (λ b. StepKeeps n i k (elim b [ true ↦ opens Shares s | false ↦ Forks (children_of take s (length os) 0 os) ]))
    [ true ↦ keeps | false ↦ (children-count i take s (length os) 0 os steady ∙ counts, children-least n take s (length os) 0 os steady least) ]

-- ---- offers

alone-keeps : (n : ℕ) (i : List ℕ) (k : ℕ) (os : List Offspring) (s : State) → met_count i os ≡ k → OffspringsLeast n os → OfferKeeps n i k (alone os s)
alone-keeps n i k [] s counts least = (counts, tt)
alone-keeps n i k (Lives side condition kept ∷ []) s counts least = (sym (add-zero _) ∙ counts, least.0)
alone-keeps n i k (Lives side condition kept ∷ o ∷ os) s counts least = (counts, least)
alone-keeps n i k (Spends condition ∷ os) s counts least = (counts, least)

module _ (c : Context) (n : ℕ) (i : List ℕ) (right : AreRightVerdicts c.verdict n) where
  -- an input meets a side's offspring where it meets the condition and the conjunct
  offspring-count : (a : Added) (s : State) (t : Tree) (side : ℕ) → StateFitsAt n s → IsTermOf n 1 t → a ≡ answer s.condition t
      → met_count i (offspring_of c a s t side) ≡ one_if (are_met_by i s.condition && is_met_by i t)
  offspring-count Held s t side h truth is = add-zero _ ∙ ap one_if (meets_also s.condition t Held i (truth.term.tree, truth.has_width) is)
  offspring-count Appended s t side h truth is =
      let also = meets_also s.condition t Appended i (truth.term.tree, truth.has_width) is in
      let fit = terms-append n 1 s.condition (t ∷ []) (parts_of n s h).condition (truth, tt) in
      count-if i (is_met_by s.kept t) (Lives side (s.condition ++ t ∷ []) s.kept ∷ []) (by_verdict (c.verdict (s.condition ++ t ∷ []) (length s.kept)) side (s.condition ++ t ∷ [])) (one_if (are_met_by i s.condition && is_met_by i t))
      (add-zero _ ∙ ap one_if also)
      (verdict-count i (c.verdict (s.condition ++ t ∷ []) (length s.kept)) side (s.condition ++ t ∷ [])
      (λ e. right.unsat (s.condition ++ t ∷ []) i fit (ap (c.verdict (s.condition ++ t ∷ [])) (sym h.size) ∙ e)) ∙ ap one_if also)
  offspring-count Contradicted s t side h truth is = ap one_if (sym (meets_also s.condition t Contradicted i (truth.term.tree, truth.has_width) is))

  offspring-least : (a : Added) (s : State) (t : Tree) (side : ℕ) → StateFitsAt n s → IsTermOf n 1 t → IsLeast n s.condition s.kept → a ≡ answer s.condition t → OffspringsLeast n (offspring_of c a s t side)
  offspring-least Held s t side h truth least is = (least, tt)
  offspring-least Appended s t side h truth least is =
      let fit = terms-append n 1 s.condition (t ∷ []) (parts_of n s h).condition (truth, tt) in
      least-if n (is_met_by s.kept t) (Lives side (s.condition ++ t ∷ []) s.kept ∷ []) (by_verdict (c.verdict (s.condition ++ t ∷ []) (length s.kept)) side (s.condition ++ t ∷ []))
      (λ met. (kept-least n s.condition (s.condition ++ t ∷ []) t s.kept (λ input. meets_also s.condition t Appended input (truth.term.tree, truth.has_width) is) least met, tt))
      (verdict-least n (c.verdict (s.condition ++ t ∷ []) (length s.kept)) side (s.condition ++ t ∷ [])
      (λ input e. right.sat (s.condition ++ t ∷ []) input fit (ap (c.verdict (s.condition ++ t ∷ [])) (sym h.size) ∙ e)))
  offspring-least Contradicted s t side h truth least is = tt

  offsprings-count : (s : State) (side : ℕ) (ts : List Tree) → StateFitsAt n s → AreTermsOf n 1 ts → met_count i (offsprings c s side ts) ≡ met_sides i (are_met_by i s.condition) ts
  offsprings-count s side [] h truths = refl
  offsprings-count s side (t ∷ ts) h truths =
      count-append i (offspring_of c (answer s.condition t) s t side) (offsprings c s (side + 1) ts)
      ∙ ap (λ m. m + met_count i (offsprings c s (side + 1) ts)) (offspring-count (answer s.condition t) s t side h truths.0 refl)
      ∙ ap (λ m. one_if (are_met_by i s.condition && is_met_by i t) + m) (offsprings-count s (side + 1) ts h truths.1)

  offsprings-least : (s : State) (side : ℕ) (ts : List Tree) → StateFitsAt n s → AreTermsOf n 1 ts → IsLeast n s.condition s.kept → OffspringsLeast n (offsprings c s side ts)
  offsprings-least s side [] h truths least = tt
  offsprings-least s side (t ∷ ts) h truths least =
      least-append n (offspring_of c (answer s.condition t) s t side) (offsprings c s (side + 1) ts)
      (offspring-least (answer s.condition t) s t side h truths.0 least refl) (offsprings-least s (side + 1) ts h truths.1 least)

  offer-keeps : (k : ℕ) (sides : List Tree) (s : State) → AreTermsOf n 1 sides → AreSides i sides → StateFitsAt n s → Keeps n i k s → OfferKeeps n i k (offer c sides s)
  offer-keeps k sides s truths split h keeps =
      elim (held_side s.condition 0 sides) as (λ o. OfferKeeps n i k (elim o [ Some side ↦ Alone side s | None ↦ alone (offsprings c s 0 sides) s ])) [
        | Some side ↦ keeps
        | None ↦ alone-keeps n i k (offsprings c s 0 sides) s (offsprings-count s 0 sides h truths ∙ split (are_met_by i s.condition) ∙ keeps.0) (offsprings-least s 0 sides h truths keeps.1)
      ]

  -- ---- tests and ways

  tested-if : (k : ℕ) (b : Bool) (t : State) → Keeps n i k t → TestedKeeps n i k (cond b (Good t) (Bad t))
  tested-if k true t h = h
  tested-if k false t h = h

  tested-keeps : (k : ℕ) (s : State) (o : Offer) → Keeps n i k s → OfferKeeps n i k o → TestedKeeps n i k (tested s o)
  tested-keeps k s (Alone side t) keeps h = tested-if k (side == 0) t h
  tested-keeps k s (Several os) keeps h = forks-keeps n i k stays s os (λ side t. (refl, refl)) keeps h.0 h.1

  pub test-keeps : (k : ℕ) (t : Tree) (s : State) → IsTermOf n 1 t → StateFitsAt n s → Keeps n i k s → TestedKeeps n i k (test c t s)
  test-keeps k t s truth h keeps =
      tested-keeps k s (offer c (t ∷ negation t ∷ []) s) keeps (offer-keeps k (t ∷ negation t ∷ []) s (truth, (negation-fits n t truth, tt)) (both-sides n t i truth) h keeps)

  taken-keeps : (k : ℕ) (take : ℕ → State → State) (s : State) (o : Offer) → IsSteady take → Keeps n i k s → OfferKeeps n i k o → StepKeeps n i k (taken take s o)
  taken-keeps k take s (Alone side t) steady keeps h = (ap (λ x. one_if (are_met_by i x)) (steady side t).0 ∙ h.0, steady-least n (take side t) t (steady side t).0 (steady side t).1 h.1)
  taken-keeps k take s (Several os) steady keeps h = forks-keeps n i k take s os steady keeps h.0 h.1

  pub choose_way-keeps : (k : ℕ) (sides : List Tree) (s : State) (take : ℕ → State → State) → AreTermsOf n 1 sides → AreSides i sides → IsSteady take → StateFitsAt n s → Keeps n i k s → StepKeeps n i k (choose_way c sides s take)
  choose_way-keeps k sides s take truths split steady h keeps = taken-keeps k take s (offer c sides s) steady keeps (offer-keeps k sides s truths split h keeps)
