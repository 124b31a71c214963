-- A folded term has the value of the operation on the operands' values.
use Rattle.std.proofs.Common.{◌≡◌, ℕ, Bool, true, false, List, None, ◌⊎◌, inl, inr, ◌+◌, ◌*◌, ◌%◌, ◌^◌, ◌==◌, ◌&&◌, ◌<◌, refl, sym, ap, ◌∙◌, subst, arith}
use Rattle.std.specs.Prelude.{cond, Result, IfOk}
use Rattle.std.proofs.lemmas.Result.{IfOk-weaker}
use Rattle.std.proofs.lemmas.Bool.{eqb-true, eq-eqb}
use Rattle.std.proofs.Math.Nat.{mod-eq_of_lt, div-one}
use Rattle.std.proofs.lemmas.Nat.{and_mask, and_comm}
use Rattle.bitnum.specs.Number.{Number, IsNumber}
use Rattle.bitnum.specs.declared.BinOp.TheVariants.{Add, Mul, And}
use Rattle.terms.specs.declared.term.Binary.{Binary}
use Rattle.terms.specs.declared.term.Binary.TheVariants.{Bin, Eq}
use Rattle.terms.specs.Tree.{Tree, constant, input, one, two, choice, width_of, width_of_one, width_of_two, IsTree, FitsTwo}
use Rattle.terms.specs.Value.{truth, is_yes, one_of, two_of, value_of}
use Rattle.terms.specs.Same.{same, same-true}
use Rattle.terms.specs.Folding.{constant_of, inside_not, turned, fold_one, folded_one, is_neutral, absorbs, fold_with, fold_alike, folded_two, fold_choice, folded_choice}
use Rattle.terms.proofs.Numbers.{value_is, fits_two, width-value_of, width-one_of, width-two_of}
use Rattle.terms.specs.declared.term.Unary.{Unary}
use Rattle.terms.specs.declared.term.Unary.TheVariants.{Not, Byte}

pub number_eq : (m n : Number) → m.width ≡ n.width → m.bits ≡ n.bits → m ≡ n
number_eq m n p q = λ i. record { width = p i; bits = q i }

pub both : (p q : Bool) → p && q ≡ true → (p ≡ true) × (q ≡ true)
both true true e = (refl, refl)
both true false e = cc
both false q e = cc

pub value-chosen : (test : Bool) (x y : Tree) (bytes : List ℕ) (n : Number) → (test ≡ true → value_of x bytes ≡ n) → (test ≡ false → value_of y bytes ≡ n) → value_of (cond test x y) bytes ≡ n
value-chosen true x y bytes n p q = p refl
value-chosen false x y bytes n p q = q refl

-- ---- a constant that leaves the other operand, or is the answer

one_bit : (n v : Number) → n.width ≡ 1 → n.width ≡ v.width → IsNumber v → v.bits % 2 ^ 1 ≡ v.bits
one_bit n v e w h = mod-eq_of_lt (subst (λ k. v.bits < 2 ^ k) (sym w ∙ e) h.fits)

neutral_first : (op : Binary) (n v : Number) → is_neutral op n ≡ true → FitsTwo op n.width v.width → IsNumber v → two_of op n v ≡ v
neutral_first (Bin Add) n v e w h = number_eq _ _ w (rw (eqb-true n.bits 0 e, w) (let z : 0 + v.bits ≡ v.bits = omega arith in rw z (mod-eq_of_lt h.fits)))
neutral_first (Bin Mul) n v e w h = number_eq _ _ w (rw (eqb-true n.bits 1 e, w) (let z : 1 * v.bits ≡ v.bits = omega arith in rw z (mod-eq_of_lt h.fits)))
neutral_first (Bin And) n v e w h =
    let parts = both (n.width == 1) (n.bits == 1) e in
    number_eq _ _ w (rw (eqb-true n.bits 1 parts.1) (and_comm 1 v.bits ∙ and_mask v.bits 1 ∙ one_bit n v (eqb-true n.width 1 parts.0) w h))
neutral_first op n v e w h = cc

neutral_second : (op : Binary) (v n : Number) → is_neutral op n ≡ true → FitsTwo op v.width n.width → IsNumber v → two_of op v n ≡ v
neutral_second (Bin Add) v n e w h = number_eq _ _ refl (rw (eqb-true n.bits 0 e) (let z : v.bits + 0 ≡ v.bits = omega arith in rw z (mod-eq_of_lt h.fits)))
neutral_second (Bin Mul) v n e w h = number_eq _ _ refl (rw (eqb-true n.bits 1 e) (let z : v.bits * 1 ≡ v.bits = omega arith in rw z (mod-eq_of_lt h.fits)))
neutral_second (Bin And) v n e w h =
    let parts = both (n.width == 1) (n.bits == 1) e in
    number_eq _ _ refl (rw (eqb-true n.bits 1 parts.1) (and_mask v.bits 1 ∙ one_bit n v (eqb-true n.width 1 parts.0) (sym w) h))
neutral_second op v n e w h = cc

absorbed_first : (op : Binary) (n v : Number) → absorbs op n ≡ true → n ≡ two_of op n v
absorbed_first (Bin And) n v e =
    let none = eqb-true n.bits 0 (both (n.width == 1) (n.bits == 0) e).1 in
    number_eq _ _ refl (rw none refl)
absorbed_first op n v e = cc

absorbed_second : (op : Binary) (v n : Number) → absorbs op n ≡ true → FitsTwo op v.width n.width → n ≡ two_of op v n
absorbed_second (Bin And) v n e w =
    let none = eqb-true n.bits 0 (both (n.width == 1) (n.bits == 0) e).1 in
    number_eq _ _ (sym w) (rw none (sym (and_comm v.bits 0)))
absorbed_second op v n e w = cc

-- ---- the cases

pub constant_or : (a : Tree) → ((n : Number) × (a ≡ constant n)) ⊎ (constant_of a ≡ None)
constant_or (constant n) = inl (n, refl)
constant_or (input k) = inr refl
constant_or (one op a) = inr refl
constant_or (two op a b) = inr refl
constant_or (choice c a b) = inr refl

-- a constant and another operand
value-first_constant : (op : Binary) (n : Number) (b : Tree) (bytes : List ℕ) → IsTree (two op (constant n) b)
    → value_of (fold_with op n b (two op (constant n) b)) bytes ≡ two_of op n (value_of b bytes)
value-first_constant op n b bytes h =
    value-chosen (is_neutral op n) _ _ bytes _ (λ e. sym (neutral_first op n (value_of b bytes) e (fits_two op (constant n) b bytes h) (value_is b bytes h.1)))
    (λ _. value-chosen (absorbs op n) _ _ bytes _ (absorbed_first op n (value_of b bytes)) (λ _. refl))

value-second_constant : (op : Binary) (a : Tree) (n : Number) (bytes : List ℕ) → IsTree (two op a (constant n))
    → value_of (fold_with op n a (two op a (constant n))) bytes ≡ two_of op (value_of a bytes) n
value-second_constant op a n bytes h =
    value-chosen (is_neutral op n) _ _ bytes _ (λ e. sym (neutral_second op (value_of a bytes) n e (fits_two op a (constant n) bytes h) (value_is a bytes h.0)))
    (λ _. value-chosen (absorbs op n) _ _ bytes _ (λ e. absorbed_second op (value_of a bytes) n e (fits_two op a (constant n) bytes h)) (λ _. refl))

alike_is : (a b : Tree) (bytes : List ℕ) → a ≡ b → truth true ≡ two_of Eq (value_of a bytes) (value_of b bytes)
alike_is a b bytes e = ap truth (sym (eq-eqb _ _ (ap (λ t. (value_of t bytes).bits) e)))

-- two operands that aren't constants
value-fold_alike : (op : Binary) (a b : Tree) (bytes : List ℕ) → value_of (fold_alike op a b) bytes ≡ two_of op (value_of a bytes) (value_of b bytes)
value-fold_alike Eq a b bytes = value-chosen (same a b) _ _ bytes _ (λ e. alike_is a b bytes (same-true a b e)) (λ _. refl)
value-fold_alike op a b bytes = refl

-- the value of a folded term
pub value-folded_two : (op : Binary) (a b : Tree) (bytes : List ℕ) → IsTree (two op a b)
    → value_of (folded_two op a b) bytes ≡ two_of op (value_of a bytes) (value_of b bytes)
unfolding folded_two
value-folded_two op a b bytes h =
    elim (constant_or a) [
      | inl x ↦ elim (constant_or b) [
        | inl y ↦ rw (x.1, y.1) refl
        | inr q ↦ rw (x.1, q) (value-first_constant op x.0 b bytes (subst (λ t. IsTree (two op t b)) x.1 h))
      ]
      | inr p ↦ elim (constant_or b) [
        | inl y ↦ rw (p, y.1) (value-second_constant op a y.0 bytes (subst (λ t. IsTree (two op a t)) y.1 h))
        | inr q ↦ rw (p, q) (value-fold_alike op a b bytes)
      ]
    ]

-- ---- one operand

turned_twice : (t : Tree) (bytes : List ℕ) → IsTree t → width_of t ≡ 1 → value_of t bytes ≡ one_of Not (one_of Not (value_of t bytes))
turned_twice t bytes h w =
    let wide : (value_of t bytes).width ≡ 1 = width-value_of t bytes h ∙ w in
    let below : (value_of t bytes).bits < 2 ^ 1 = subst (λ k. (value_of t bytes).bits < 2 ^ k) wide (value_is t bytes h).fits in
    number_eq _ _ wide (omega arith)

value-turned : (a : Tree) (bytes : List ℕ) → IsTree (one Not a) → value_of (turned (inside_not a) a) bytes ≡ one_of Not (value_of a bytes)
value-turned (one Not t) bytes h = turned_twice t bytes h.0.0 h.0.1
value-turned a bytes h = refl

whole_byte : (a : Tree) (j : ℕ) (bytes : List ℕ) → IsTree (one (Byte j) a) → width_of a ≡ 8 → value_of a bytes ≡ one_of (Byte j) (value_of a bytes)
whole_byte a j bytes h w =
    let lowest : j ≡ 0 = omega (arith, h.1.1) in
    let below : (value_of a bytes).bits < 2 ^ 8 = subst (λ k. (value_of a bytes).bits < 2 ^ k) (width-value_of a bytes h.0 ∙ w) (value_is a bytes h.0).fits in
    number_eq _ _ (width-value_of a bytes h.0 ∙ w) (rw lowest (sym (ap (λ x. x % 2 ^ 8) (div-one (value_of a bytes).bits) ∙ mod-eq_of_lt below)))

value-fold_one : (op : Unary) (a : Tree) (bytes : List ℕ) → IsTree (one op a) → value_of (fold_one op None a) bytes ≡ one_of op (value_of a bytes)
value-fold_one Not a bytes h = value-turned a bytes h
value-fold_one (Byte j) a bytes h = value-chosen (width_of a == 8) _ _ bytes _ (λ e. whole_byte a j bytes h (eqb-true _ _ e)) (λ _. refl)
value-fold_one op a bytes h = refl

pub value-folded_one : (op : Unary) (a : Tree) (bytes : List ℕ) → IsTree (one op a) → value_of (folded_one op a) bytes ≡ one_of op (value_of a bytes)
unfolding folded_one
value-folded_one op a bytes h =
    elim (constant_or a) [
      | inl x ↦ rw x.1 refl
      | inr p ↦ rw p (value-fold_one op a bytes h)
    ]

-- ---- a choice

value-cond : (test : Bool) (a b : Tree) (bytes : List ℕ) → value_of (cond test a b) bytes ≡ cond test (value_of a bytes) (value_of b bytes)
value-cond true a b bytes = refl
value-cond false a b bytes = refl

same_arms : (test : Bool) (m n : Number) → m ≡ n → m ≡ cond test m n
same_arms true m n e = refl
same_arms false m n e = e

value-fold_choice : (c a b : Tree) (bytes : List ℕ) → value_of (fold_choice None c a b) bytes ≡ cond (is_yes (value_of c bytes)) (value_of a bytes) (value_of b bytes)
value-fold_choice c a b bytes =
    value-chosen (same a b) _ _ bytes _ (λ e. same_arms (is_yes (value_of c bytes)) _ _ (ap (λ t. value_of t bytes) (same-true a b e))) (λ _. refl)

pub value-folded_choice : (c a b : Tree) (bytes : List ℕ) → value_of (folded_choice c a b) bytes ≡ cond (is_yes (value_of c bytes)) (value_of a bytes) (value_of b bytes)
unfolding folded_choice
value-folded_choice c a b bytes =
    elim (constant_or c) [
      | inl x ↦ rw x.1 (value-cond (is_yes x.0) a b bytes)
      | inr p ↦ rw p (value-fold_choice c a b bytes)
    ]

-- ---- widths

pub width-chosen : (test : Bool) (x y : Tree) (w : ℕ) → (test ≡ true → width_of x ≡ w) → (test ≡ false → width_of y ≡ w) → width_of (cond test x y) ≡ w
width-chosen true x y w p q = p refl
width-chosen false x y w p q = q refl

width-neutral_first : (op : Binary) (n : Number) (w : ℕ) → is_neutral op n ≡ true → FitsTwo op n.width w → w ≡ width_of_two op n.width w
width-neutral_first (Bin op) n w e h = sym h
width-neutral_first op n w e h = cc

width-neutral_second : (op : Binary) (n : Number) (v : ℕ) → is_neutral op n ≡ true → v ≡ width_of_two op v n.width
width-neutral_second (Bin op) n v e = refl
width-neutral_second op n v e = cc

width-absorbs_first : (op : Binary) (n : Number) (w : ℕ) → absorbs op n ≡ true → n.width ≡ width_of_two op n.width w
width-absorbs_first (Bin op) n w e = refl
width-absorbs_first op n w e = cc

width-absorbs_second : (op : Binary) (n : Number) (v : ℕ) → absorbs op n ≡ true → FitsTwo op v n.width → n.width ≡ width_of_two op v n.width
width-absorbs_second (Bin op) n v e h = sym h
width-absorbs_second op n v e h = cc

width-fold_alike : (op : Binary) (a b : Tree) → width_of (fold_alike op a b) ≡ width_of_two op (width_of a) (width_of b)
width-fold_alike Eq a b = width-chosen (same a b) _ _ _ (λ _. refl) (λ _. refl)
width-fold_alike op a b = refl

pub width-folded_two : (op : Binary) (a b : Tree) → IsTree (two op a b) → width_of (folded_two op a b) ≡ width_of_two op (width_of a) (width_of b)
unfolding folded_two
width-folded_two op a b h =
    elim (constant_or a) [
      | inl x ↦ elim (constant_or b) [
        | inl y ↦ rw (x.1, y.1) (width-two_of op x.0 y.0)
        | inr q ↦ let fits = (subst (λ t. IsTree (two op t b)) x.1 h).2 in
            rw (x.1, q) (width-chosen (is_neutral op x.0) _ _ _ (λ e. width-neutral_first op x.0 (width_of b) e fits)
            (λ _. width-chosen (absorbs op x.0) _ _ _ (λ e. width-absorbs_first op x.0 (width_of b) e) (λ _. refl)))
      ]
      | inr p ↦ elim (constant_or b) [
        | inl y ↦ let fits = (subst (λ t. IsTree (two op a t)) y.1 h).2 in
            rw (p, y.1) (width-chosen (is_neutral op y.0) _ _ _ (λ e. width-neutral_second op y.0 (width_of a) e)
            (λ _. width-chosen (absorbs op y.0) _ _ _ (λ e. width-absorbs_second op y.0 (width_of a) e fits) (λ _. refl)))
        | inr q ↦ rw (p, q) (width-fold_alike op a b)
      ]
    ]

width-turned : (a : Tree) → IsTree (one Not a) → width_of (turned (inside_not a) a) ≡ 1
width-turned (one Not t) h = h.0.1
width-turned a h = refl

width-fold_one : (op : Unary) (a : Tree) → IsTree (one op a) → width_of (fold_one op None a) ≡ width_of_one op
width-fold_one Not a h = width-turned a h
width-fold_one (Byte j) a h = width-chosen (width_of a == 8) _ _ _ (eqb-true _ _) (λ _. refl)
width-fold_one op a h = refl

pub width-folded_one : (op : Unary) (a : Tree) → IsTree (one op a) → width_of (folded_one op a) ≡ width_of_one op
unfolding folded_one
width-folded_one op a h =
    elim (constant_or a) [
      | inl x ↦ rw x.1 (width-one_of op x.0)
      | inr p ↦ rw p (width-fold_one op a h)
    ]

pub width-folded_choice : (c a b : Tree) → width_of a ≡ width_of b → width_of (folded_choice c a b) ≡ width_of a
unfolding folded_choice
width-folded_choice c a b h =
    elim (constant_or c) [
      | inl x ↦ rw x.1 (width-chosen (is_yes x.0) _ _ _ (λ _. refl) (λ _. sym h))
      | inr p ↦ rw p (width-chosen (same a b) _ _ _ (λ _. refl) (λ _. refl))
    ]

-- what holds of a tree holds of the term that was made of it
pub made_has : {E : Type 0} (made : Result Tree E) (t : Tree) (P : Tree → Type 0) → P t → IfOk made (λ u. u ≡ t) → IfOk made P
made_has made t P h = IfOk-weaker made (λ u. u ≡ t) P (λ u e. subst P (sym e) h)
