-- Refusals that are told one after the other: the order doesn't matter.
use Rattle.std.proofs.Common.{◌≡◌, ◌∙◌, ◌++◌, ℕ, Bool, true, false, List, [], ◌∷◌, Option, Some, None, refl, sym, ap, arith}
use Rattle.std.specs.Prelude.{nat_le, nat_lt, ◌==◌, if◌then◌else◌}
use Rattle.std.proofs.lemmas.Bool.{eqb-true, leb-true, ltb-true}
use Rattle.std.proofs.lemmas.List.{map-append}
use Rattle.ir_programs.specs.declared.refusals.Cause.{Cause}
use Rattle.ir_programs.specs.declared.refusals.Cause.TheVariants.{UnknownName, UnknownFunction, DuplicateName, ReservedName, ObjectTooLarge, RecursiveType, WrongNumber, BadInitialiser, FunctionValue, MainParameters}
use Rattle.ir_programs.specs.declared.refusals.Refusal.{Refusal}
use Rattle.ir_programs.specs.Refusals.{order, is_earlier, earlier, earlier_of, first, merged, refused}
use Rattle.ir_programs.proofs.Told.{first_is_told, merged_more}

-- ---- two are told in either order

cause_at : ℕ → Cause
cause_at n =
    if n == 0 then UnknownName else if n == 1 then UnknownFunction else if n == 2 then DuplicateName else if n == 3 then ReservedName else if n == 4 then ObjectTooLarge else
    if n == 5 then RecursiveType else if n == 6 then WrongNumber else if n == 7 then BadInitialiser else if n == 8 then FunctionValue else MainParameters

at_order : (c : Cause) → cause_at (order c) ≡ c
unfolding cause_at
at_order UnknownName = refl
at_order UnknownFunction = refl
at_order DuplicateName = refl
at_order ReservedName = refl
at_order ObjectTooLarge = refl
at_order RecursiveType = refl
at_order WrongNumber = refl
at_order BadInitialiser = refl
at_order FunctionValue = refl
at_order MainParameters = refl

same_order : (c d : Cause) → order c ≡ order d → c ≡ d
same_order c d e = sym (at_order c) ∙ (ap cause_at e ∙ at_order d)

abbrev is_before : ℕ → ℕ → ℕ → ℕ → Bool
is_before m n j k = if m == n then nat_le j k else nat_lt m n

both_before : (m n j k : ℕ) → is_before m n j k ≡ true → is_before n m k j ≡ true → (m ≡ n) × (j ≡ k)
both_before m n j k x y = go (m == n) (n == m) refl refl x y
  where
    go : (s t : Bool) → (m == n) ≡ s → (n == m) ≡ t → (if s then nat_le j k else nat_lt m n) ≡ true → (if t then nat_le k j else nat_lt n m) ≡ true → (m ≡ n) × (j ≡ k)
    go true true e d p q = (eqb-true m n e, (let le = leb-true j k p in let ge = leb-true k j q in omega (arith, le, ge)))
    go true false e d p q = let is = eqb-true m n e in let lt = ltb-true n m q in absurd (omega (arith, is, lt))
    go false true e d p q = let is = eqb-true n m d in let lt = ltb-true m n p in absurd (omega (arith, is, lt))
    go false false e d p q = let lt = ltb-true m n p in let gt = ltb-true n m q in absurd (omega (arith, lt, gt))

same_refusal : (a b : Refusal) → a.at ≡ b.at → a.cause ≡ b.cause → a ≡ b
same_refusal a b e d =
    let placed : ℕ → Refusal = λ x. record { at = x; cause = a.cause } in
    let caused : Cause → Refusal = λ x. record { at = b.at; cause = x } in
    ap placed e ∙ ap caused d

is_one : (a b : Refusal) → is_earlier a b ≡ true → is_earlier b a ≡ true → a ≡ b
is_one a b x y = let both = both_before a.at b.at (order a.cause) (order b.cause) x y in same_refusal a b both.0 (same_order a.cause b.cause both.1)

self : (a : Refusal) → is_earlier a a ≡ true
self a = (first_is_told (a ∷ [])).first' a a refl (0, omega arith, refl)

either : (a b : Refusal) → is_earlier a b ≡ false → is_earlier b a ≡ true
either a b e =
    (first_is_told (a ∷ b ∷ [])).first' b a (ap (λ (t : Bool). Some (if t then a else b)) e) (0, omega arith, refl)

pub earlier_swap : (a b : Refusal) → earlier a b ≡ earlier b a
earlier_swap a b = go (is_earlier a b) (is_earlier b a) refl refl
  where
    go : (s t : Bool) → is_earlier a b ≡ s → is_earlier b a ≡ t → (if s then a else b) ≡ (if t then b else a)
    go true true e d = is_one a b e d
    go true false e d = refl
    go false true e d = refl
    go false false e d = absurd (apart (is_earlier b a) d (either a b e))
      where
        apart : (t : Bool) → t ≡ false → t ≡ true → ⊥
        apart t x y = cc

pub merged_swap : (a b : Option Refusal) → merged a b ≡ merged b a
merged_swap None None = refl
merged_swap None (Some b) = refl
merged_swap (Some a) None = refl
merged_swap (Some a) (Some b) = ap (λ (r : Refusal). Some r) (earlier_swap a b)

pub merged_three : (a b c : Option Refusal) → merged (merged a b) c ≡ merged a (merged b c)
merged_three None b c = refl
merged_three (Some a) None c = refl
merged_three (Some a) (Some b) c = merged_more (Some a) b c

-- ---- lists

pub first_append : (xs ys : List Refusal) → first (xs ++ ys) ≡ merged (first xs) (first ys)
first_append [] ys = refl
first_append (x ∷ xs) ys = ap (λ (o : Option Refusal). Some (earlier_of x o)) (first_append xs ys) ∙ sym (merged_three (Some x) (first xs) (first ys))

pub refused_append : (cause : Cause) (xs ys : List ℕ) → first (refused cause (xs ++ ys)) ≡ merged (first (refused cause xs)) (first (refused cause ys))
refused_append cause xs ys = ap first (map-append (λ at. record { at = at; cause = cause }) xs ys) ∙ first_append (refused cause xs) (refused cause ys)

-- one more list of places
pub refused_more : (cause : Cause) (told : Option Refusal) (xs ys : List ℕ) → merged (merged told (first (refused cause xs))) (first (refused cause ys)) ≡ merged told (first (refused cause (xs ++ ys)))
refused_more cause told xs ys = merged_three told (first (refused cause xs)) (first (refused cause ys)) ∙ ap (merged told) (sym (refused_append cause xs ys))

-- ---- many

abbrev pub all_of : List (Option Refusal) → Option Refusal
all_of [] = None
all_of (o ∷ os) = merged o (all_of os)

pub none_behind : (o : Option Refusal) → merged o None ≡ o
none_behind None = refl
none_behind (Some r) = refl

pub taken_out : (before behind : List (Option Refusal)) (o : Option Refusal) → all_of (before ++ o ∷ behind) ≡ merged o (all_of (before ++ behind))
taken_out [] behind o = refl
taken_out (b ∷ bs) behind o =
    ap (merged b) (taken_out bs behind o) ∙ (sym (merged_three b o (all_of (bs ++ behind))) ∙ (ap (λ (x : Option Refusal). merged x (all_of (bs ++ behind))) (merged_swap b o) ∙ merged_three o b (all_of (bs ++ behind))))
