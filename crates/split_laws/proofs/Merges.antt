-- The combinations of leaves of a merge split the inputs of the suspended state, and keep the least ones.
use Rattle.std.proofs.Common.{◌≡◌, ℕ, Bool, true, false, ◌+◌, ◌≤◌, ◌&&◌, ◌||◌, ◌==◌, zero, suc, List, [], ◌∷◌, ◌++◌, length, drop, Option, Some, None, refl, sym, ◌∙◌, ap, subst, arith, zero-add, add_assoc, inl, inr, ◌⊎◌}
use Rattle.std.specs.Prelude.{cond, nat_lt, IfSome}
use Rattle.std.specs.List.{AllByRecursion as Each, flat_map}
use Rattle.std.proofs.lemmas.Bool.{eqb-true, false≢true}
use Rattle.std.proofs.Math.Bool.{and-true, and_assoc}
use Rattle.std.proofs.Math.Nat.{add-zero}
use Rattle.terms.specs.Tree.{Tree}
use Rattle.terms.specs.Value.{is_met_by, are_met_by}
use Rattle.terms.proofs.Folds.{both}
use Rattle.term_store.specs.Condition.{answer}
use Rattle.term_store.specs.declared.conditions.Added.TheVariants.{Held, Appended, Contradicted}
use Rattle.term_store.proofs.Meets.{meets_also}
use Rattle.flat_ir.specs.Sound.{IsInput}
use Rattle.leaves.specs.declared.options.Cause.{Cause}
use Rattle.leaves.specs.declared.options.Cause.TheVariants as cause
use Rattle.leaves.specs.Events.{Leaf, told_of}
use Rattle.leaves.specs.Events as leaf
use Rattle.leaves.specs.Fitting.{AreTermsOf}
use Rattle.sym_states.specs.Merging.{Partial, add_all, by_verdict, still_meets, joined_with, combined, combined_all, folded, first_partial, Where, fault_of, cause_of, first_some, filled_by, filled_all, state_of, child_by_cause, child_by_fault, child_of, children_of}
use Rattle.sym_states.specs.Sides.{share_of}
use Rattle.sym_states.specs.States.{State, Context, Child, Stop, Forks, Needed, told_with, opens}
use Rattle.sym_states.specs.Verdicts.{Verdict, Sat, Unsat, Spent}
use Rattle.sym_states.proofs.Widths.{terms-append}
use Rattle.state_laws.specs.Explored.{LeavesFitAt}
use Rattle.state_laws.specs.Kept.{LeafFitsAt}
use Rattle.state_laws.proofs.States.{parts_of}
use Rattle.state_laws.proofs.Merged.{SizeIf, PartialFits, TermsFitIf, add_all-fits, combined_all-fits, PartialsFit, first-fits}
use Rattle.right_leaves.specs.Right.{IsLeast}
use Rattle.exploration_laws.specs.Begins.{BeginsWith, condition_of, LeavesBegin}
use Rattle.exploration_laws.proofs.Givers.{begins-same}
use Rattle.exploration_laws.proofs.Merges.{BeginsIf, add_all-begins}
use Rattle.split_laws.specs.Splits.{times_met, met_among, met_leaves, ChildKeepsLeast, ChildrenKeepLeast, GivesSplit, LeavesSplit, IsRightContext, MergesSplit}

-- ---- adding conjuncts

met-append : (i : List ℕ) (known more : List Tree) → are_met_by i (known ++ more) ≡ (are_met_by i known && are_met_by i more)
met-append i [] more = refl
met-append i (t ∷ known) more = ap (λ b. is_met_by i t && b) (met-append i known more) ∙ sym (and_assoc (is_met_by i t) (are_met_by i known) (are_met_by i more))

-- an input meets what is made where it meets both; none does where they contradict each other
abbrev AddsAll : List Tree → List Tree → Option (List Tree) → Type 0
AddsAll known ts None = (i : List ℕ) → (are_met_by i known && are_met_by i ts) ≡ false
AddsAll known ts (Some made) = (i : List ℕ) → are_met_by i made ≡ (are_met_by i known && are_met_by i ts)

adds-more : (known next ts : List Tree) (t : Tree) (o : Option (List Tree)) → ((i : List ℕ) → are_met_by i next ≡ (are_met_by i known && is_met_by i t)) → AddsAll next ts o → AddsAll known (t ∷ ts) o
adds-more known next ts t None also h = λ i. sym (and_assoc (are_met_by i known) (is_met_by i t) (are_met_by i ts)) ∙ ap (λ b. b && are_met_by i ts) (sym (also i)) ∙ h i
adds-more known next ts t (Some made) also h = λ i. h i ∙ ap (λ b. b && are_met_by i ts) (also i) ∙ and_assoc (are_met_by i known) (is_met_by i t) (are_met_by i ts)

none-if : (a b c : Bool) → (a && b) ≡ false → (a && (b && c)) ≡ false
none-if true false c h = refl
none-if true true c h = absurd (false≢true (sym h))
none-if false b c h = refl

add_all-adds : (n : ℕ) (known ts : List Tree) → AreTermsOf n 1 known → AreTermsOf n 1 ts → AddsAll known ts (add_all known ts)
add_all-adds n known [] h k = λ i. sym (and-true (are_met_by i known))
add_all-adds n known (t ∷ ts) h k =
    elim (answer known t) as (λ a. a ≡ answer known t → AddsAll known (t ∷ ts) (elim a [ Contradicted ↦ None | Held ↦ add_all known ts | Appended ↦ add_all (known ++ t ∷ []) ts ])) [
      | Contradicted ↦ (λ is i. none-if (are_met_by i known) (is_met_by i t) (are_met_by i ts) (meets_also known t Contradicted i (k.0.term.tree, k.0.has_width) is))
      | Held ↦ (λ is. adds-more known known ts t (add_all known ts) (λ i. meets_also known t Held i (k.0.term.tree, k.0.has_width) is) (add_all-adds n known ts h k.1))
      | Appended ↦ (λ is. adds-more known (known ++ t ∷ []) ts t (add_all (known ++ t ∷ []) ts) (λ i. meets_also known t Appended i (k.0.term.tree, k.0.has_width) is)
          (add_all-adds n (known ++ t ∷ []) ts (terms-append n 1 known (t ∷ []) h (k.0, tt)) k.1))
    ]
    refl

terms-drop : (n w k : ℕ) (ts : List Tree) → AreTermsOf n w ts → AreTermsOf n w (drop k ts)
terms-drop n w zero ts h = h
terms-drop n w (suc k) [] h = tt
terms-drop n w (suc k) (t ∷ ts) h = terms-drop n w k ts h.1

-- ---- combinations

pub record PartialIsRight (n : ℕ) (first : List Tree) (p : Partial) : Type 0 where
  pub fits : PartialFits n p
  pub begins : BeginsWith first p.condition
  pub least : IfSome p.kept (λ kept. IsLeast n p.condition kept)

abbrev pub PartialsAreRight : ℕ → List Tree → List Partial → Type 0
PartialsAreRight n first [] = Unit {0}
PartialsAreRight n first (p ∷ ps) = PartialIsRight n first p × PartialsAreRight n first ps

-- how many of the combinations an input meets
abbrev met_partials : List ℕ → List Partial → ℕ
met_partials i [] = 0
met_partials i (p ∷ ps) = times_met i p.condition + met_partials i ps

right-append : (n : ℕ) (first : List Tree) (ps qs : List Partial) → PartialsAreRight n first ps → PartialsAreRight n first qs → PartialsAreRight n first (ps ++ qs)
right-append n first [] qs h k = k
right-append n first (p ∷ ps) qs h k = (h.0, right-append n first ps qs h.1 k)

count-append : (i : List ℕ) (ps qs : List Partial) → met_partials i (ps ++ qs) ≡ met_partials i ps + met_partials i qs
count-append i [] qs = sym (zero-add (met_partials i qs))
count-append i (p ∷ ps) qs = ap (λ m. times_met i p.condition + m) (count-append i ps qs) ∙ sym (add_assoc (times_met i p.condition) (met_partials i ps) (met_partials i qs))

-- a condition that is no longer than its first conjuncts is these
same-length : (first all : List Tree) → BeginsWith first all → length first ≡ length all → all ≡ first
same-length first all h e = h.is ∙ nothing-more first h.rest (e ∙ ap length h.is)
  where
    nothing-more : (us rest : List Tree) → length us ≡ length (us ++ rest) → us ++ rest ≡ us
    nothing-more [] [] e = refl
    nothing-more [] (t ∷ rest) e = absurd (omega (arith, e))
    nothing-more (u ∷ us) rest e = ap (λ ts. u ∷ ts) (nothing-more us rest (omega (arith, e)))

or-cases : (a b : Bool) → a || b ≡ true → (a ≡ true) ⊎ (b ≡ true)
or-cases true b e = inl refl
or-cases false b e = inr e

-- the input that is kept stays the least
still-least : (n : ℕ) (old new more : List Tree) (kept : List ℕ) → BeginsWith old new → ((i : List ℕ) → are_met_by i new ≡ (are_met_by i old && are_met_by i more)) → IsLeast n old kept → still_meets kept old new ≡ true → IsLeast n new kept
still-least n old new more kept begins also h is = elim (or-cases (length old == length new) (are_met_by kept new) is) [
  | inl same ↦ subst (λ condition. IsLeast n condition kept) (sym (same-length old new begins (eqb-true (length old) (length new) same))) h
  | inr met ↦ record { fits = h.fits; met = met; least = λ input fits meets. h.least input fits (both (are_met_by input old) (are_met_by input more) (sym (also input) ∙ meets)).0 }
]

drop-first : (first rest : List Tree) → drop (length first) (first ++ rest) ≡ rest
drop-first [] rest = refl
drop-first (t ∷ first) rest = drop-first first rest

-- what meets the combination meets its first conjuncts already
shared : (p f r m : Bool) → p ≡ (f && r) → (p && m) ≡ (p && (f && m))
shared p true r m e = refl
shared true false r m e = absurd (false≢true (sym e))
shared false false r m e = refl

module _ (n : ℕ) (c : Context) (first : List Tree) (right : IsRightContext n c) (most : n ≤ 64) where
  verdict-count : (i : List ℕ) (v : Verdict) (condition : List Tree) (used : List Leaf) → (v ≡ Unsat → are_met_by i condition ≡ false) → met_partials i (by_verdict v condition used) ≡ times_met i condition
  verdict-count i (Sat input) condition used h = add-zero (times_met i condition)
  verdict-count i Spent condition used h = add-zero (times_met i condition)
  verdict-count i Unsat condition used h = ap (λ b. cond b 1 0) (sym (h refl))

  joined-count : (i : List ℕ) (p : Partial) (kept : List ℕ) (more : List Tree) (o : Option (List Tree)) (l : Leaf) → AddsAll p.condition more o → TermsFitIf n o → length kept ≡ n
      → met_partials i (joined_with c p kept o l) ≡ cond (are_met_by i p.condition && are_met_by i more) 1 0
  joined-count i p kept more None l adds fits size = ap (λ b. cond b 1 0) (sym (adds i))
  joined-count i p kept more (Some condition) l adds fits size =
      elim (still_meets kept p.condition condition) as (λ b. met_partials i (elim b [
        | true ↦ record { condition = condition; kept = Some kept; used = p.used ++ l ∷ [] } ∷ []
        | false ↦ by_verdict (c.verdict condition (length kept)) condition (p.used ++ l ∷ [])
      ]) ≡ times_met i condition) [
        | true ↦ add-zero (times_met i condition)
        | false ↦ verdict-count i (c.verdict condition (length kept)) condition (p.used ++ l ∷ []) (λ e. right.verdicts.unsat condition i fits (ap (c.verdict condition) (sym size) ∙ e))
      ]
      ∙ ap (λ b. cond b 1 0) (adds i)

  combined-count : (i : List ℕ) (p : Partial) (kept : List ℕ) (l : Leaf) → PartialIsRight n first p → length kept ≡ n → LeafFitsAt n l → BeginsWith first (told_of l).condition
      → met_partials i (combined c (length first) p kept l) ≡ cond (are_met_by i p.condition && are_met_by i (told_of l).condition) 1 0
  combined-count i p kept l h size fits begins =
      let more = drop (length first) (told_of l).condition in
      let terms = terms-drop n 1 (length first) (told_of l).condition fits.told.condition in
      joined-count i p kept more (add_all p.condition more) l (add_all-adds n p.condition more h.fits.condition terms) (add_all-fits n p.condition more h.fits.condition terms) size
      ∙ ap (λ ts. cond (are_met_by i p.condition && are_met_by i ts) 1 0) (ap (drop (length first)) begins.is ∙ drop-first first begins.rest)
      ∙ ap (λ b. cond b 1 0) (shared (are_met_by i p.condition) (are_met_by i first) (are_met_by i h.begins.rest) (are_met_by i begins.rest) (ap (are_met_by i) h.begins.is ∙ met-append i first h.begins.rest))
      ∙ ap (λ b. cond (are_met_by i p.condition && b) 1 0) (sym (ap (are_met_by i) begins.is ∙ met-append i first begins.rest))

  -- how many leaves an input meets, if it meets the combination
  abbrev met_if : Bool → List ℕ → List Leaf → ℕ
  met_if b i [] = 0
  met_if b i (l ∷ ls) = cond (b && are_met_by i (told_of l).condition) 1 0 + met_if b i ls

  each-count : (i : List ℕ) (p : Partial) (kept : List ℕ) (ls : List Leaf) → PartialIsRight n first p → length kept ≡ n → LeavesFitAt n ls → LeavesBegin first ls
      → met_partials i (flat_map (combined c (length first) p kept) ls) ≡ met_if (are_met_by i p.condition) i ls
  each-count i p kept [] h size fits begin = refl
  each-count i p kept (l ∷ ls) h size fits begin =
      count-append i (combined c (length first) p kept l) (flat_map (combined c (length first) p kept) ls)
      ∙ (λ j. combined-count i p kept l h size fits.0 begin.0 j + each-count i p kept ls h size fits.1 begin.1 j)

  met-all : (i : List ℕ) (ls : List Leaf) → met_if true i ls ≡ met_leaves i ls
  met-all i [] = refl
  met-all i (l ∷ ls) = ap (λ m. times_met i (told_of l).condition + m) (met-all i ls)

  met-none : (i : List ℕ) (ls : List Leaf) → met_if false i ls ≡ 0
  met-none i [] = refl
  met-none i (l ∷ ls) = zero-add (met_if false i ls) ∙ met-none i ls

  met-once : (i : List ℕ) (p f r : Bool) (ls : List Leaf) → p ≡ (f && r) → met_leaves i ls ≡ cond f 1 0 → met_if p i ls ≡ cond p 1 0
  met-once i true true r ls e h = met-all i ls ∙ h
  met-once i true false r ls e h = absurd (false≢true (sym e))
  met-once i false f r ls e h = met-none i ls

  combined_all-count : (i : List ℕ) (ls : List Leaf) (p : Partial) → IsInput n i → PartialIsRight n first p → LeavesSplit n first ls → met_partials i (combined_all c (length first) ls p) ≡ times_met i p.condition
  combined_all-count i ls p is h split =
      elim p.kept as (λ o. SizeIf n o → met_partials i (elim o [ None ↦ p ∷ [] | Some kept ↦ flat_map (combined c (length first) p kept) ls ]) ≡ times_met i p.condition) [
        | None ↦ (λ size. add-zero (times_met i p.condition))
        | Some kept ↦ (λ size. each-count i p kept ls h size split.fit split.begin
            ∙ met-once i (are_met_by i p.condition) (are_met_by i first) (are_met_by i h.begins.rest) ls (ap (are_met_by i) h.begins.is ∙ met-append i first h.begins.rest) (split.splits i is))
      ]
      h.fits.size

  all-count : (i : List ℕ) (ls : List Leaf) (ps : List Partial) → IsInput n i → PartialsAreRight n first ps → LeavesSplit n first ls → met_partials i (flat_map (combined_all c (length first) ls) ps) ≡ met_partials i ps
  all-count i ls [] is h split = refl
  all-count i ls (p ∷ ps) is h split =
      count-append i (combined_all c (length first) ls p) (flat_map (combined_all c (length first) ls) ps)
      ∙ (λ j. combined_all-count i ls p is h.0 split j + all-count i ls ps is h.1 split j)

  -- ---- what combinations keep

  abbrev SomeLeast : List Partial → Type 0
  SomeLeast [] = Unit {0}
  SomeLeast (p ∷ ps) = (BeginsWith first p.condition × IfSome p.kept (λ kept. IsLeast n p.condition kept)) × SomeLeast ps

  some-append : (ps qs : List Partial) → SomeLeast ps → SomeLeast qs → SomeLeast (ps ++ qs)
  some-append [] qs h k = k
  some-append (p ∷ ps) qs h k = (h.0, some-append ps qs h.1 k)

  verdict-least : (v : Verdict) (condition : List Tree) (used : List Leaf) → BeginsWith first condition → ((input : List ℕ) → v ≡ Sat input → IsLeast n condition input) → SomeLeast (by_verdict v condition used)
  verdict-least (Sat input) condition used begins h = ((begins, h input refl), tt)
  verdict-least Unsat condition used begins h = tt
  verdict-least Spent condition used begins h = ((begins, tt), tt)

  joined-least : (p : Partial) (kept : List ℕ) (more : List Tree) (o : Option (List Tree)) (l : Leaf) → BeginsIf first o → BeginsIf p.condition o → AddsAll p.condition more o → TermsFitIf n o → length kept ≡ n
      → IsLeast n p.condition kept → SomeLeast (joined_with c p kept o l)
  joined-least p kept more None l begins grows adds fits size least = tt
  joined-least p kept more (Some condition) l begins grows adds fits size least =
      elim (still_meets kept p.condition condition) as (λ b. still_meets kept p.condition condition ≡ b → SomeLeast (elim b [
        | true ↦ record { condition = condition; kept = Some kept; used = p.used ++ l ∷ [] } ∷ []
        | false ↦ by_verdict (c.verdict condition (length kept)) condition (p.used ++ l ∷ [])
      ])) [
        | true ↦ (λ is. ((begins, still-least n p.condition condition more kept grows adds least is), tt))
        | false ↦ (λ is. verdict-least (c.verdict condition (length kept)) condition (p.used ++ l ∷ []) begins
            (λ input e. right.verdicts.sat condition input fits (ap (c.verdict condition) (sym size) ∙ e)))
      ]
      refl

  each-least : (p : Partial) (kept : List ℕ) (ls : List Leaf) → PartialFits n p → BeginsWith first p.condition → IsLeast n p.condition kept → length kept ≡ n → LeavesFitAt n ls → SomeLeast (flat_map (combined c (length first) p kept) ls)
  each-least p kept [] fit begins least size fits = tt
  each-least p kept (l ∷ ls) fit begins least size fits =
      let more = drop (length first) (told_of l).condition in
      let terms = terms-drop n 1 (length first) (told_of l).condition fits.0.told.condition in
      some-append (combined c (length first) p kept l) (flat_map (combined c (length first) p kept) ls)
      (joined-least p kept more (add_all p.condition more) l (add_all-begins first p.condition more begins) (add_all-begins p.condition p.condition more (begins-same p.condition))
      (add_all-adds n p.condition more fit.condition terms) (add_all-fits n p.condition more fit.condition terms) size least)
      (each-least p kept ls fit begins least size fits.1)

  combined_all-least : (ls : List Leaf) (p : Partial) → PartialIsRight n first p → LeavesFitAt n ls → SomeLeast (combined_all c (length first) ls p)
  combined_all-least ls p h fits =
      elim p.kept as (λ o. SizeIf n o → IfSome o (λ kept. IsLeast n p.condition kept) → p.kept ≡ o → SomeLeast (elim o [ None ↦ p ∷ [] | Some kept ↦ flat_map (combined c (length first) p kept) ls ])) [
        | None ↦ (λ size least is. ((h.begins, h.least), tt))
        | Some kept ↦ (λ size least is. each-least p kept ls h.fits h.begins least size fits)
      ]
      h.fits.size h.least refl

  all-right : (ps : List Partial) → PartialsFit n ps → SomeLeast ps → PartialsAreRight n first ps
  all-right [] h k = tt
  all-right (p ∷ ps) h k = (record { fits = h.0; begins = k.0.0; least = k.0.1 }, all-right ps h.1 k.1)

  all-combined : (ls : List Leaf) (ps : List Partial) → PartialsAreRight n first ps → LeavesFitAt n ls → PartialsAreRight n first (flat_map (combined_all c (length first) ls) ps)
  all-combined ls [] h fits = tt
  all-combined ls (p ∷ ps) h fits =
      right-append n first (combined_all c (length first) ls p) (flat_map (combined_all c (length first) ls) ps)
      (all-right (combined_all c (length first) ls p) (combined_all-fits c n (length first) ls p right.fitting most h.0.fits fits) (combined_all-least ls p h.0 fits)) (all-combined ls ps h.1 fits)

  -- so many of the combinations are met, if there are not too many
  abbrev FoldedIsRight : Option (List Partial) → List Partial → Type 0
  FoldedIsRight None ps = Unit {0}
  FoldedIsRight (Some found) ps = PartialsAreRight n first found × ((i : List ℕ) → IsInput n i → met_partials i found ≡ met_partials i ps)

  folded-from : (o : Option (List Partial)) (qs ps : List Partial) → FoldedIsRight o qs → ((i : List ℕ) → IsInput n i → met_partials i qs ≡ met_partials i ps) → FoldedIsRight o ps
  folded-from None qs ps h k = tt
  folded-from (Some found) qs ps h k = (h.0, λ i is. h.1 i is ∙ k i is)

  folded-right : (s : State) (lists : List (List Leaf)) (ps : List Partial) → s.condition ≡ first → Each (LeavesSplit n first) lists → PartialsAreRight n first ps → FoldedIsRight (folded c s lists ps) ps
  folded-right s [] ps same splits h = (h, λ i is. refl)
  folded-right s (ls ∷ lists) ps same splits h =
      subst (λ (root : List Tree). FoldedIsRight (elim (nat_lt s.shares (length (flat_map (combined_all c (length root) ls) ps))) [ true ↦ None | false ↦ folded c s lists (flat_map (combined_all c (length root) ls) ps) ]) ps) (sym same)
      (elim (nat_lt s.shares (length (flat_map (combined_all c (length first) ls) ps))) as (λ b. FoldedIsRight (elim b [ true ↦ None | false ↦ folded c s lists (flat_map (combined_all c (length first) ls) ps) ]) ps) [
        | true ↦ tt
        | false ↦ folded-from (folded c s lists (flat_map (combined_all c (length first) ls) ps)) (flat_map (combined_all c (length first) ls) ps) ps
            (folded-right s lists (flat_map (combined_all c (length first) ls) ps) same splits.1 (all-combined ls ps h splits.0.fit)) (λ i is. all-count i ls ps is h splits.0)
      ])

-- ---- children

abbrev StateKeeps : List Tree → List ℕ → State → Type 0
StateKeeps condition kept s = (s.condition ≡ condition) × (s.kept ≡ kept)

filled_by-same : (condition : List Tree) (kept : List ℕ) (s : State) (needed : Needed) (l : Leaf) → StateKeeps condition kept s → StateKeeps condition kept (filled_by s needed l)
filled_by-same condition kept s needed (leaf.Done t entries v) h = h
filled_by-same condition kept s needed _ h = h

filled-same : (condition : List Tree) (kept : List ℕ) (s : State) (needs : List Needed) (ls : List Leaf) → StateKeeps condition kept s → StateKeeps condition kept (filled_all s needs ls)
filled-same condition kept s [] ls h = h
filled-same condition kept s (needed ∷ needs) [] h = h
filled-same condition kept s (needed ∷ needs) (l ∷ ls) h = filled-same condition kept (filled_by s needed l) needs ls (filled_by-same condition kept s needed l h)

-- the child has the combination's condition, and keeps the least input
abbrev ChildIsOf : ℕ → Partial → Child → Type 0
ChildIsOf n p child = (condition_of child ≡ p.condition) × ChildKeepsLeast n child

by_cause-of : (n : ℕ) (o : Option Cause) (s : State) (needs : List Needed) (kept : List ℕ) (p : Partial) → IsLeast n p.condition kept → ChildIsOf n p (child_by_cause o s needs kept p)
by_cause-of n (Some why) s needs kept p least = (refl, least)
by_cause-of n None s needs kept p least =
    let u = record (state_of s p) { kept = kept } in
    let same = filled-same p.condition kept u needs p.used (refl, refl) in
    (same.0, subst (λ condition. IsLeast n condition (filled_all u needs p.used).kept) (sym same.0) (subst (λ k. IsLeast n p.condition k) (sym same.1) least))

by_fault-of : (n : ℕ) (o : Option Where) (s : State) (needs : List Needed) (kept : List ℕ) (p : Partial) → IsLeast n p.condition kept → ChildIsOf n p (child_by_fault o s needs kept p)
by_fault-of n (Some f) s needs kept p least = (refl, least)
by_fault-of n None s needs kept p least = by_cause-of n (first_some cause_of p.used) s needs kept p least

child-of : (n : ℕ) (s : State) (needs : List Needed) (p : Partial) → IfSome p.kept (λ kept. IsLeast n p.condition kept) → ChildIsOf n p (child_of s needs p)
child-of n s needs p h =
    elim p.kept as (λ o. IfSome o (λ kept. IsLeast n p.condition kept) → ChildIsOf n p (elim o [
      | None ↦ Stop (leaf.Open (told_with None p.condition (state_of s p)) cause.Solver)
      | Some kept ↦ child_by_fault (first_some fault_of p.used) s needs kept p
    ])) [ None ↦ (λ least. (refl, tt)) | Some kept ↦ (λ least. by_fault-of n (first_some fault_of p.used) s needs kept p least) ]
    h

children-count : (n : ℕ) (first : List Tree) (i : List ℕ) (s : State) (needs : List Needed) (k j : ℕ) (ps : List Partial) → PartialsAreRight n first ps → met_among i (children_of s needs k j ps) ≡ met_partials i ps
children-count n first i s needs k j [] h = refl
children-count n first i s needs k j (p ∷ ps) h =
    λ x. ap (times_met i) (child-of n (record s { shares = share_of s.shares k j }) needs p h.0.least).0 x + children-count n first i s needs k (j + 1) ps h.1 x

children-least : (n : ℕ) (first : List Tree) (s : State) (needs : List Needed) (k j : ℕ) (ps : List Partial) → PartialsAreRight n first ps → ChildrenKeepLeast n (children_of s needs k j ps)
children-least n first s needs k j [] h = tt
children-least n first s needs k j (p ∷ ps) h = ((child-of n (record s { shares = share_of s.shares k j }) needs p h.0.least).1, children-least n first s needs k (j + 1) ps h.1)

pub merges-split : MergesSplit
merges-split n c s needs results right fit least splits =
    let first = first_partial s in
    elim (folded c s results (first ∷ [])) as (λ o. FoldedIsRight n c s.condition right (parts_of n s fit).most o (first ∷ []) → GivesSplit n s.condition (elim o [
      | None ↦ opens cause.Shares s
      | Some partials ↦ Forks (children_of s needs (length partials) 0 partials)
    ])) [
      | None ↦ (λ h. record { splits = λ i is. refl; least = least })
      | Some partials ↦ (λ h. record {
        splits = λ i is. children-count n s.condition i s needs (length partials) 0 partials h.0 ∙ h.1 i is ∙ add-zero (times_met i s.condition);
        least = children-least n s.condition s needs (length partials) 0 partials h.0;
      })
    ]
    (folded-right n c s.condition right (parts_of n s fit).most s results (first ∷ []) refl splits (record { fits = first-fits n s fit; begins = begins-same s.condition; least = least }, tt))
