-- The first of some refusals is told.
use Rattle.std.proofs.Common.{◌≡◌, ◌<◌, ◌≤◌, ◌⊎◌, ◌∙◌, inl, inr, ℕ, Bool, true, false, List, [], ◌∷◌, Option, Some, None, refl, sym, ap, subst, arith}
use Rattle.std.specs.Prelude.{nat_le, nat_lt, ◌==◌, if◌then◌else◌}
use Rattle.std.specs.List.{Contains}
use Rattle.std.proofs.lemmas.Bool.{eqb-true, eqb-false, leb-true, leb-false, ltb-true, ltb-false, le-leb, lt-ltb, eq-eqb, ne_eqb}
use Rattle.std.proofs.lemmas.List.Elements.{Contains-append_right, Contains-append_cases, Contains-push_cases}
use Rattle.std.proofs.lemmas.Option.{none-some, same_Some}
use Rattle.flat_ir.specs.declared.program.ProgramData.{ProgramData}
use Rattle.ir_tree.specs.declared.module.IrTree.{IrTree}
use Rattle.ir_programs.specs.declared.refusals.Refusal.{Refusal}
use Rattle.ir_programs.specs.Refusals.{order, is_earlier, earlier, earlier_of, first, merged}
use Rattle.ir_programs.specs.Answers.{Resolved, Refused, answered, refusals, Tells, FirstIsTold, ProgramIsOne, NotBoth}

-- ---- the order

-- one place is lower, or the places are one and the condition stands no later
data Before (m n j k : ℕ) : Type 0 where
  lower : m < n → Before m n j k
  level : m ≡ n → j ≤ k → Before m n j k

abbrev is_before : ℕ → ℕ → ℕ → ℕ → Bool
is_before m n j k = if m == n then nat_le j k else nat_lt m n

to_before : (m n j k : ℕ) → is_before m n j k ≡ true → Before m n j k
to_before m n j k h = go (m == n) refl h
  where
    go : (t : Bool) → (m == n) ≡ t → (if t then nat_le j k else nat_lt m n) ≡ true → Before m n j k
    go true e g = level (eqb-true m n e) (leb-true j k g)
    go false e g = lower (ltb-true m n g)

level_before : (m n j k : ℕ) → m ≡ n → j ≤ k → is_before m n j k ≡ true
level_before m n j k e le = ap (λ t. if t then nat_le j k else nat_lt m n) (eq-eqb m n e) ∙ le-leb j k le

apart : (m n : ℕ) → m < n → m ≡ n → ⊥
apart m n lt e = omega (arith, lt, e)

lower_before : (m n j k : ℕ) → m < n → is_before m n j k ≡ true
lower_before m n j k lt = ap (λ t. if t then nat_le j k else nat_lt m n) (ne_eqb m n (apart m n lt)) ∙ lt-ltb m n lt

of_before : (m n j k : ℕ) → Before m n j k → is_before m n j k ≡ true
of_before m n j k (lower lt) = lower_before m n j k lt
of_before m n j k (level e le) = level_before m n j k e le

before_trans : (a b c i j k : ℕ) → Before a b i j → Before b c j k → Before a c i k
before_trans a b c i j k (lower x) (lower y) = lower (omega arith)
before_trans a b c i j k (lower x) (level y z) = lower (omega arith)
before_trans a b c i j k (level x z) (lower y) = lower (omega arith)
before_trans a b c i j k (level x z) (level y w) = level (x ∙ y) (omega arith)

not_equal : (m n : ℕ) → n ≤ m → (m ≡ n → ⊥) → n < m
not_equal m n le differ = omega (arith, le, differ)

before_either : (m n j k : ℕ) → is_before m n j k ≡ false → Before n m k j
before_either m n j k h = go (m == n) refl h
  where
    less : k < j → k ≤ j
    less lt = omega arith

    go : (t : Bool) → (m == n) ≡ t → (if t then nat_le j k else nat_lt m n) ≡ false → Before n m k j
    go true e g = level (sym (eqb-true m n e)) (less (leb-false j k g))
    go false e g = lower (not_equal m n (ltb-false m n g) (eqb-false m n e))

-- ---- the first

abbrev Earlier : Refusal → Refusal → Type 0
Earlier a b = is_earlier a b ≡ true

trans : (a b c : Refusal) → Earlier a b → Earlier b c → Earlier a c
trans a b c x y =
    of_before a.at c.at (order a.cause) (order c.cause)
    (before_trans a.at b.at c.at (order a.cause) (order b.cause) (order c.cause) (to_before a.at b.at (order a.cause) (order b.cause) x) (to_before b.at c.at (order b.cause) (order c.cause) y))

self : (a : Refusal) → Earlier a a
self a = level_before a.at a.at (order a.cause) (order a.cause) refl (omega arith)

other : (a b : Refusal) → is_earlier a b ≡ false → Earlier b a
other a b h = of_before b.at a.at (order b.cause) (order a.cause) (before_either a.at b.at (order a.cause) (order b.cause) h)

cons_cases : (r : Refusal) (rs : List Refusal) (q : Refusal) → Contains (r ∷ rs) q → (r ≡ q) ⊎ Contains rs q
cons_cases r rs q h = go (Contains-append_cases (r ∷ []) rs q h)
  where
    none : Contains {X = Refusal} [] q → ⊥
    none w = omega (arith, w.1)

    one : Contains ([]) q ⊎ (r ≡ q) → (r ≡ q) ⊎ Contains rs q
    one (inl w) = absurd (none w)
    one (inr e) = inl e

    go : Contains (r ∷ []) q ⊎ Contains rs q → (r ≡ q) ⊎ Contains rs q
    go (inl w) = one (Contains-push_cases [] r q w)
    go (inr w) = inr w

head_in : (r : Refusal) (rs : List Refusal) → Contains (r ∷ rs) r
head_in r rs = (0, omega arith, refl)

tail_in : (r : Refusal) (rs : List Refusal) (q : Refusal) → Contains rs q → Contains (r ∷ rs) q
tail_in r rs q h = Contains-append_right (r ∷ []) rs q h

-- what is told, by what is told of the rest
abbrev IsTold : List Refusal → Refusal → Type 0
IsTold rs r = Contains rs r × ((q : Refusal) → Contains rs q → Earlier r q)

abbrev Told : List Refusal → Option Refusal → Type 0
Told rs None = (q : Refusal) → Contains rs q → ⊥
Told rs (Some r) = IsTold rs r

alone : (r : Refusal) (rs : List Refusal) → Told rs None → IsTold (r ∷ rs) r
alone r rs none = (head_in r rs, λ q w. go q (cons_cases r rs q w))
  where
    go : (q : Refusal) → (r ≡ q) ⊎ Contains rs q → Earlier r q
    go q (inl e) = subst (λ (x : Refusal). Earlier r x) e (self r)
    go q (inr w) = absurd (none q w)

of_two : (r b : Refusal) (rs : List Refusal) (t : Bool) → is_earlier r b ≡ t → IsTold rs b → IsTold (r ∷ rs) (if t then r else b)
of_two r b rs true e told = (head_in r rs, λ q w. go q (cons_cases r rs q w))
  where
    go : (q : Refusal) → (r ≡ q) ⊎ Contains rs q → Earlier r q
    go q (inl d) = subst (λ (x : Refusal). Earlier r x) d (self r)
    go q (inr w) = trans r b q e (told.1 q w)
of_two r b rs false e told = (tail_in r rs b told.0, λ q w. go q (cons_cases r rs q w))
  where
    go : (q : Refusal) → (r ≡ q) ⊎ Contains rs q → Earlier b q
    go q (inl d) = subst (λ (x : Refusal). Earlier b x) d (other r b e)
    go q (inr w) = told.1 q w

next : (r : Refusal) (rs : List Refusal) (o : Option Refusal) → Told rs o → IsTold (r ∷ rs) (earlier_of r o)
next r rs None told = alone r rs told
next r rs (Some b) told = of_two r b rs (is_earlier r b) refl told

told_first : (rs : List Refusal) → Told rs (first rs)
told_first [] = λ q w. omega (arith, w.1)
told_first (r ∷ rs) = next r rs (first rs) (told_first rs)

as_record : (rs : List Refusal) (o : Option Refusal) → Told rs o → Tells rs o
as_record rs None told = record { among' = λ r e. absurd (none-some r e); first' = λ r q e w. absurd (none-some r e); none' = λ e. told }
as_record rs (Some b) told = record {
  among' = λ r e. subst (λ (x : Refusal). Contains rs x) (same_Some b r e) told.0;
  first' = λ r q e w. subst (λ (x : Refusal). Earlier x q) (same_Some b r e) (told.1 q w);
  none' = λ e. absurd (none-some b (sym e));
}

pub first_is_told : FirstIsTold
first_is_told rs = as_record rs (first rs) (told_first rs)

-- ---- one behind the other

false_true : (t : Bool) → t ≡ false → t ≡ true → ⊥
false_true t e d = cc

-- what is told of three is told of two, and then of the third
pub earlier_of_three : (a b c : Refusal) → earlier (earlier a b) c ≡ earlier a (earlier b c)
earlier_of_three a b c = go (is_earlier a b) (is_earlier b c) refl refl
  where
    last : (u : Bool) → is_earlier a b ≡ false → is_earlier b c ≡ false → is_earlier a c ≡ u → (if is_earlier b c then b else c) ≡ (if u then a else c)
    last true x y z = absurd (false_true (is_earlier a b) x (trans a c b z (other b c y)))
    last false x y z = ap (λ (t : Bool). if t then b else c) y

    go : (s t : Bool) → is_earlier a b ≡ s → is_earlier b c ≡ t →
        (if is_earlier (if s then a else b) c then (if s then a else b) else c) ≡ (if is_earlier a (if t then b else c) then a else (if t then b else c))
    go true true x y = ap (λ (t : Bool). if t then a else c) (trans a b c x y) ∙ sym (ap (λ (t : Bool). if t then a else b) x)
    go true false x y = refl
    go false true x y = ap (λ (t : Bool). if t then b else c) y ∙ sym (ap (λ (t : Bool). if t then a else b) x)
    go false false x y = last (is_earlier a c) x y refl

pub merged_more : (o : Option Refusal) (r : Refusal) (x : Option Refusal) → merged (merged o (Some r)) x ≡ merged o (Some (earlier_of r x))
merged_more None r x = refl
merged_more (Some a) r None = refl
merged_more (Some a) r (Some b) = ap (λ (q : Refusal). Some q) (earlier_of_three a r b)

-- ---- answers

resolved_same : (p q : ProgramData) → Resolved p ≡ Resolved q → p ≡ q
resolved_same p q e = cc

pub program_is_one : ProgramIsOne
program_is_one t p q e d = resolved_same p q (sym e ∙ d)

no_program : (t : IrTree) (r : Refusal) (p : ProgramData) → Refused r ≡ Resolved p → ⊥
no_program t r p e = cc

unrefused : (t : IrTree) (o : Option Refusal) (p : ProgramData) → answered t o ≡ Resolved p → o ≡ None
unrefused t None p e = refl
unrefused t (Some r) p e = absurd (no_program t r p e)

pub not_both : NotBoth
not_both t p r e w = (first_is_told (refusals t)).none' (unrefused t (first (refusals t)) p e) r w
