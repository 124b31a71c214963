-- What one look at all clauses means for the least closed set.
use Rattle.std.proofs.Common.{◌≡◌, ◌⊎◌, ◌≤◌, ◌<◌, ◌+◌, ℕ, zero, suc, get_or, set, take, Bool, true, false, not, ◌||◌, Option, Some, None, List, [], ◌∷◌, length, refl, sym, ap, subst, ◌∙◌, inl, inr, ⊎_elim, All, Contains, arith}
use Rattle.std.specs.List.{list_all}
use Rattle.std.proofs.lemmas.Bool.{and_parts, and_from, or_cases, or_left, or_right, false≢true, true≢false}
use Rattle.std.proofs.lemmas.List.Elements.{All-contains, All-head, All-tail}
use mathlib.Core.Bool.{beq}
use Rattle.cnf.specs.declared.Lit.{Lit}
use Rattle.cnf.specs.Literals.{Literals, negated, same, among, is_value, holds_of}
use Rattle.cnf.specs.UnitRule.{IsOpen, HasOneOpen, IsConsistent}
use Rattle.std.proofs.Common.{Vec, Global, take_all}
use Rattle.std.proofs.lemmas.List.{get_or-map, length-map}
use Rattle.std.proofs.lemmas.List.Elements.{All-more}
use Rattle.std.proofs.Common.{ap₂, get_or-set_same, get_or-set_other}
use Rattle.std.proofs.lemmas.Bool.{cases_eq}
use Rattle.cnf.specs.declared.UnitState.{UnitState}
use Rattle.cnf.specs.declared.UnitState.TheVariants.{Satisfied, Free}
use Rattle.cnf.specs.UnitRule.{IsUnitState}
use Rattle.cnf.specs.Cnf.{lists_of}
use Rattle.cnf.specs.Forced.{is_forced_by, IsClosed, Within, Forced, Conflicts}
use Rattle.cnf.proofs.SetLemmas.{same-equal, same-refl}
use Rattle.cnf.proofs.ForcedLemmas.{Forced-step}
use Rattle.cnf.specs.Passes.{IsQuiet}
use Rattle.cnf.specs.Cnf.{IsBelow}

list_all-contains : (p : Lit → Bool) (c : List Lit) (m : Lit) → Contains c m → list_all p c ≡ true → p m ≡ true
list_all-contains p c m there e = at_place c there.0 there.1 there.2 e
  where
    at_place : (ls : List Lit) (k : ℕ) → k < length ls → get_or ls k m ≡ m → list_all p ls ≡ true → p m ≡ true
    at_place [] k below is h = absurd (omega arith)
    at_place (l ∷ ls) zero below is h = subst (λ x. p x ≡ true) is (and_parts (p l) (list_all p ls) h).0
    at_place (l ∷ ls) (suc k) below is h = at_place ls k (omega arith) is (and_parts (p l) (list_all p ls) h).1

pub among_from_Contains : (c : List Lit) (m : Lit) → Contains c m → among c m ≡ true
among_from_Contains c m there = at_place c there.0 there.1 there.2
  where
    at_place : (ls : List Lit) (k : ℕ) → k < length ls → get_or ls k m ≡ m → among ls m ≡ true
    at_place [] k below is = absurd (omega arith)
    at_place (l ∷ ls) zero below is = or_left (same m l) (among ls m) (subst (λ x. same m x ≡ true) (sym is) (same-refl m))
    at_place (l ∷ ls) (suc k) below is = or_right (same m l) (among ls m) (at_place ls k (omega arith) is)

list_all-from_All : (p : Lit → Bool) (c : List Lit) → All (λ m. p m ≡ true) c → list_all p c ≡ true
list_all-from_All p [] h = refl
list_all-from_All p (m ∷ ms) h =
    and_from (p m) (list_all p ms) (All-head (λ x. p x ≡ true) m ms h) (list_all-from_All p ms (All-tail (λ x. p x ≡ true) m ms h))

-- a literal of a clause that forces l, and that isn't false, is l
fellow_is : (S : Literals) (c : List Lit) (l m : Lit) → is_forced_by S c l ≡ true → Contains c m → S (negated m) ≡ false → m ≡ l
fellow_is S c l m e there not_false =
    ⊎_elim (λ a. same-equal m l a) (λ b. absurd (true≢false (sym b ∙ not_false))) (or_cases (same m l) (S (negated m)) (list_all-contains (λ x. same x l || S (negated x)) c m there (and_parts (among c l) (list_all (λ x. same x l || S (negated x)) c) e).1))

quiet_is_closed : (S : Literals) → IsConsistent S → (c : List Lit) → IsQuiet S c → (l : Lit) → is_forced_by S c l ≡ true → S l ≡ true
quiet_is_closed S consistent c (inl h) l e =
    let m = h.1 in
    let is = fellow_is S c l m e (h.0, h.2, h.3) (consistent m h.4) in
    subst (λ x. S x ≡ true) is h.4
quiet_is_closed S consistent c (inr h) l e =
    let two = h.1 in
    let first = fellow_is S c l two.first e two.first_stands two.first_open.1 in
    let second = fellow_is S c l two.second e two.second_stands two.second_open.1 in
    absurd (two.differ (first ∙ sym second))

pub closed_when_quiet : (F : List (List Lit)) (S : Literals) → IsConsistent S → All (IsQuiet S) F → IsClosed F S
closed_when_quiet F S consistent quiet k d below = quiet_is_closed S consistent (get_or F k d) (quiet k d below)

quiet_not_empty : (S : Literals) → IsQuiet S [] → ⊥
quiet_not_empty S (inl h) = omega (arith, h.2)
quiet_not_empty S (inr h) = let two = h.1 in let k = two.first_stands.1 in omega (arith, k)

-- a quiet consistent set that has A shows that A doesn't conflict
pub no_conflict_when_quiet : (F : List (List Lit)) (A S : Literals) → IsConsistent S → All (IsQuiet S) F → Within A S → Conflicts F A → ⊥
no_conflict_when_quiet F A S consistent quiet within (inl h) =
    quiet_not_empty S (All-contains (IsQuiet S) F [] quiet h)
no_conflict_when_quiet F A S consistent quiet within (inr h) =
    let closed = closed_when_quiet F S consistent quiet in
    let one = h.1 S closed within in
    let other = h.2 S closed within in
    true≢false (sym other ∙ consistent h.0 one)

one_open_forces : (S : Literals) (c : List Lit) (l : Lit) → HasOneOpen S c l → is_forced_by S c l ≡ true
one_open_forces S c l h =
    and_from (among c l) (list_all (λ m. same m l || S (negated m)) c) (among_from_Contains c l h.stands) (list_all-from_All (λ m. same m l || S (negated m)) c (λ k d below. ⊎_elim (λ a. or_left (same (get_or c k d) l) (S (negated (get_or c k d))) (subst (λ x. same x l ≡ true) (sym a) (same-refl l))) (λ b. or_right (same (get_or c k d) l) (S (negated (get_or c k d))) b) (h.fellows k d below)))

pub unit_is_forced : (F : List (List Lit)) (A S : Literals) → ((m : Lit) → S m ≡ true → Forced F A m) → (c : List Lit) (l : Lit) → Contains F c → HasOneOpen S c l → Forced F A l
unit_is_forced F A S each c l there h =
    Forced-step F A c l there (among_from_Contains c l h.stands) S each (one_open_forces S c l h)

all_false_forces : (S : Literals) (l : Lit) (ls : List Lit) → All (λ m. S (negated m) ≡ true) (l ∷ ls) → is_forced_by S (l ∷ ls) l ≡ true
all_false_forces S l ls h =
    and_from (among (l ∷ ls) l) (list_all (λ m. same m l || S (negated m)) (l ∷ ls)) (or_left (same l l) (among ls l) (same-refl l)) (list_all-from_All (λ m. same m l || S (negated m)) (l ∷ ls) (λ k d below. or_right (same (get_or (l ∷ ls) k d) l) (S (negated (get_or (l ∷ ls) k d))) (h k d below)))

pub false_clause_conflicts : (F : List (List Lit)) (A S : Literals) → ((m : Lit) → S m ≡ true → Forced F A m) → (c : List Lit) → Contains F c → All (λ m. S (negated m) ≡ true) c → Conflicts F A
false_clause_conflicts F A S each [] there h = inl there
false_clause_conflicts F A S each (l ∷ ls) there h =
    let e = all_false_forces S l ls h in
    inr (l, Forced-step F A (l ∷ ls) l there (or_left (same l l) (among ls l) (same-refl l)) S each e, each (negated l) (All-head (λ m. S (negated m) ≡ true) l ls h))

-- the clauses, one by one

pub list_at : (clauses : List (Vec Lit Global)) (i : ℕ) (clause : Vec Lit Global) → i < length clauses → clause ≡ get_or clauses i clause → get_or (lists_of clauses) i clause.items ≡ clause.items
list_at clauses i clause below is =
    get_or-map (λ c. c.items) clauses i clause clause.items below ∙ ap (λ c. c.items) (sym is)

pub below_at : (n : ℕ) (clauses : List (Vec Lit Global)) (i : ℕ) (clause : Vec Lit Global) → IsBelow n (lists_of clauses) → i < length clauses → clause ≡ get_or clauses i clause → All (λ l. l.var < n) clause.items
below_at n clauses i clause h below is =
    subst (λ c. All (λ l. l.var < n) c) (list_at clauses i clause below is) (h i clause.items (rw (length-map clauses (λ c. c.items)) below))

pub each_more : (P : List Lit → Type 0) (clauses : List (Vec Lit Global)) (i : ℕ) (clause : Vec Lit Global) → i < length clauses → clause ≡ get_or clauses i clause → All P (take i (lists_of clauses)) → P clause.items → All P (take (i + 1) (lists_of clauses))
each_more P clauses i clause below is so_far here =
    All-more P (lists_of clauses) i clause.items (rw (length-map clauses (λ c. c.items)) below) so_far (subst P (sym (list_at clauses i clause below is)) here)

pub each_all : (P : List Lit → Type 0) (clauses : List (Vec Lit Global)) (i : ℕ) → length clauses ≤ i → All P (take i (lists_of clauses)) → All P (lists_of clauses)
each_all P clauses i past h =
    let all : length (lists_of clauses) ≤ i = rw (length-map clauses (λ c. c.items)) past in
    rw (take_all i (lists_of clauses) all) at h

pub quiet_from_unit : (S : Literals) (c : List Lit) (state : UnitState) → IsUnitState S c state → (state ≡ Satisfied) ⊎ (state ≡ Free) → IsQuiet S c
quiet_from_unit S c state h (inl e) = let P : UnitState → Type 0 = IsUnitState S c in inl (subst P e h)
quiet_from_unit S c state h (inr e) = let P : UnitState → Type 0 = IsUnitState S c in inr (subst P e h)

-- one literal more

beq-same : (a b : Bool) → beq a b ≡ true → a ≡ b
beq-same true true e = refl
beq-same false false e = refl
beq-same true false e = absurd (false≢true e)
beq-same false true e = absurd (false≢true e)

beq-refl : (b : Bool) → beq b b ≡ true
beq-refl true = refl
beq-refl false = refl

-- after the write a literal is the new one or was there
pub holds-set_cases : (assigned : List (Option Bool)) (l m : Lit) → l.var < length assigned → holds_of (set assigned l.var (Some l.positive)) m ≡ true → (m ≡ l) ⊎ (holds_of assigned m ≡ true)
holds-set_cases assigned l m below e =
    ⊎_elim (λ at.
    let here : is_value (get_or (set assigned l.var (Some l.positive)) l.var None) m.positive ≡ true =
    subst (λ v. is_value (get_or (set assigned l.var (Some l.positive)) v None) m.positive ≡ true) at e in
    let bits : beq l.positive m.positive ≡ true = rw (get_or-set_same assigned l.var (Some l.positive) None below) at here in
    inl (ap₂ (λ v b. record { var = v; positive = b }) at (sym (beq-same l.positive m.positive bits)))) (λ other. inr (rw (get_or-set_other assigned l.var m.var (Some l.positive) None other) at e)) (cases_eq m.var l.var)

pub holds-set_same : (assigned : List (Option Bool)) (l : Lit) → l.var < length assigned → holds_of (set assigned l.var (Some l.positive)) l ≡ true
holds-set_same assigned l below = rw (get_or-set_same assigned l.var (Some l.positive) None below) (beq-refl l.positive)

-- a write to a variable without a value keeps all others
pub holds-set_keeps : (assigned : List (Option Bool)) (l m : Lit) → l.var < length assigned → get_or assigned l.var None ≡ None → holds_of assigned m ≡ true → holds_of (set assigned l.var (Some l.positive)) m ≡ true
holds-set_keeps assigned l m below none e =
    ⊎_elim (λ at.
    let here : is_value (get_or assigned l.var None) m.positive ≡ true = subst (λ v. is_value (get_or assigned v None) m.positive ≡ true) at e in
    let there : false ≡ true = rw none at here in
    absurd (false≢true there)) (λ other. rw (get_or-set_other assigned l.var m.var (Some l.positive) None other) e) (cases_eq m.var l.var)

-- an open literal has no value
pub none_when_open : (assigned : List (Option Bool)) (l : Lit) → IsOpen (holds_of assigned) l → get_or assigned l.var None ≡ None
none_when_open assigned l h = by_value (get_or assigned l.var None) l.positive h.0 h.1
  where
    by_bits : (a b : Bool) → beq a b ≡ false → beq a (not b) ≡ false → ⊥
    by_bits true true e f = true≢false e
    by_bits false false e f = true≢false e
    by_bits true false e f = true≢false f
    by_bits false true e f = true≢false f

    by_value : (o : Option Bool) (b : Bool) → is_value o b ≡ false → is_value o (not b) ≡ false → o ≡ None
    by_value None b e f = refl
    by_value (Some a) b e f = absurd (by_bits a b e f)

pub var_below : (n : ℕ) (F : List (List Lit)) (c : List Lit) (l : Lit) → IsBelow n F → Contains F c → Contains c l → l.var < n
var_below n F c l h there stands =
    All-contains (λ m. m.var < n) c l (All-contains (λ d. All (λ m. m.var < n) d) F c h there) stands
