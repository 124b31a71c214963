-- Which inputs meet a condition to which a term was added.
use Rattle.std.proofs.Common.{◌≡◌, ℕ, Bool, true, false, ◌&&◌, ◌||◌, ◌-◌, List, [], ◌∷◌, ◌++◌, ◌⊎◌, inl, inr, refl, sym, ap, ◌∙◌, arith}
use Rattle.std.specs.Prelude.{cond}
use Rattle.std.proofs.lemmas.Bool.{eqb-true, eq-eqb}
use Rattle.terms.specs.declared.term.Unary.TheVariants.{Not}
use Rattle.terms.specs.Tree.{Tree, constant, input, one, two, choice, IsTree}
use Rattle.terms.specs.Value.{is_yes, value_of, is_met_by, are_met_by}
use Rattle.terms.specs.Same.{same, same-true}
use Rattle.terms.specs.Folding.{constant_of}
use Rattle.terms.proofs.Folds.{both, value-folded_one}
use Rattle.term_store.specs.declared.conditions.Added.{Added}
use Rattle.term_store.specs.declared.conditions.Added.TheVariants.{Held, Appended, Contradicted}
use Rattle.term_store.specs.Condition.{is_bit, stands, negation, answer, after, MeetsAlso}

or_cases : (p q : Bool) → p || q ≡ true → (p ≡ true) ⊎ (q ≡ true)
or_cases true q e = inl refl
or_cases false q e = inr e

held_is : (p q : Bool) → Held ≡ cond p Held (cond q Contradicted Appended) → p ≡ true
held_is true q e = refl
held_is false true e = cc
held_is false false e = cc

contradicted_is : (p q : Bool) → Contradicted ≡ cond p Held (cond q Contradicted Appended) → q ≡ true
contradicted_is true q e = cc
contradicted_is false true e = refl
contradicted_is false false e = cc

bit_is : (bit : ℕ) (t : Tree) (bytes : List ℕ) → is_bit bit (constant_of t) ≡ true → (value_of t bytes).bits ≡ bit
bit_is bit (constant n) bytes e = eqb-true n.bits bit e
bit_is bit (input k) bytes e = cc
bit_is bit (one o a) bytes e = cc
bit_is bit (two o a b) bytes e = cc
bit_is bit (choice c a b) bytes e = cc

-- a term that stands in a condition that is met is 1
pub stands_is : (known : List Tree) (t : Tree) (bytes : List ℕ) → are_met_by bytes known ≡ true → stands known t ≡ true → (value_of t bytes).bits ≡ 1
stands_is [] t bytes met e = cc
stands_is (c ∷ cs) t bytes met e =
    let parts = both (is_yes (value_of c bytes)) (are_met_by bytes cs) met in
    elim (or_cases (same t c) (stands cs t) e) [
      | inl is ↦ ap (λ u. (value_of u bytes).bits) (same-true t c is) ∙ eqb-true _ _ parts.0
      | inr more ↦ stands_is cs t bytes parts.1 more
    ]

-- a term that the condition holds is 1
pub held_value : (known : List Tree) (t : Tree) (bytes : List ℕ) → are_met_by bytes known ≡ true → Held ≡ answer known t → (value_of t bytes).bits ≡ 1
held_value known t bytes met e =
    elim (or_cases _ _ (held_is (is_bit 1 (constant_of t) || stands known t) (is_bit 0 (constant_of t) || stands known (negation t)) e)) [
      | inl is ↦ bit_is 1 t bytes is
      | inr is ↦ stands_is known t bytes met is
    ]

turned_bit : (b : ℕ) → 1 - b ≡ 1 → b ≡ 0
turned_bit b e = omega arith

-- a term that contradicts the condition is 0
pub contradicted_value : (known : List Tree) (t : Tree) (bytes : List ℕ) → IsTree (one Not t) → are_met_by bytes known ≡ true → Contradicted ≡ answer known t → (value_of t bytes).bits ≡ 0
contradicted_value known t bytes h met e =
    elim (or_cases _ _ (contradicted_is (is_bit 1 (constant_of t) || stands known t) (is_bit 0 (constant_of t) || stands known (negation t)) e)) [
      | inl is ↦ bit_is 0 t bytes is
      | inr is ↦ turned_bit (value_of t bytes).bits (sym (ap (λ n. n.bits) (value-folded_one Not t bytes h)) ∙ stands_is known (negation t) bytes met is)
    ]

and_true : (p q : Bool) → (p ≡ true → q ≡ true) → p ≡ (p && q)
and_true true q h = sym (h refl)
and_true false q h = refl

and_false : (p q : Bool) → (p ≡ true → q ≡ false) → (p && q) ≡ false
and_false true q h = h refl
and_false false q h = refl

met-append : (bytes : List ℕ) (known : List Tree) (t : Tree) → are_met_by bytes (known ++ t ∷ []) ≡ (are_met_by bytes known && is_met_by bytes t)
met-append bytes [] t = last (is_met_by bytes t)
  where
    last : (p : Bool) → (p && true) ≡ p
    last true = refl
    last false = refl
met-append bytes (c ∷ cs) t = more (is_met_by bytes c) _ _ _ (met-append bytes cs t)
  where
    more : (p a q r : Bool) → a ≡ (q && r) → (p && a) ≡ ((p && q) && r)
    more true a q r e = e
    more false a q r e = refl

not_one : (b : ℕ) → b ≡ 0 → (n : Bool) → (n ≡ true → b ≡ 1) → n ≡ false
not_one b z true h = absurd (omega (arith, z, h refl))
not_one b z false h = refl

-- what adding a term does to the inputs that meet the condition
pub meets_also : (known : List Tree) (t : Tree) (a : Added) (bytes : List ℕ) → IsTree (one Not t) → a ≡ answer known t → MeetsAlso a bytes known (after a known t) t
meets_also known t Held bytes h e = and_true (are_met_by bytes known) (is_met_by bytes t) (λ met. eq-eqb _ _ (held_value known t bytes met e))
meets_also known t Appended bytes h e = met-append bytes known t
meets_also known t Contradicted bytes h e =
    and_false (are_met_by bytes known) (is_met_by bytes t)
    (λ met. not_one (value_of t bytes).bits (contradicted_value known t bytes h met e) (is_met_by bytes t) (eqb-true _ _))
