-- The sides of a test split the inputs that meet the state's condition.
use Rattle.std.proofs.Common.{◌≡◌, ℕ, Bool, true, false, inl, inr, List, [], ◌∷◌, ◌++◌, length, ◌+◌, ◌-◌, ◌^◌, ◌==◌, ◌&&◌, ◌<◌, refl, sym, ap, ◌∙◌, subst, arith}
use Rattle.std.specs.Prelude.{cond}
use Rattle.std.proofs.lemmas.Bool.{cases_Bool, eqb-true, eqb-false}
use Rattle.terms.specs.Tree.{Tree, IsTree, width_of}
use Rattle.terms.specs.declared.term.Unary.TheVariants.{Not}
use Rattle.terms.proofs.Numbers.{value_is, width-value_of}
use Rattle.terms.proofs.Folds.{value-folded_one}
use Rattle.term_store.specs.Condition.{answer, negation}
use Rattle.term_store.specs.declared.conditions.Added.{Added}
use Rattle.term_store.specs.declared.conditions.Added.TheVariants.{Held, Appended, Contradicted}
use Rattle.sym_states.specs.Verdicts.{Verdict, Sat, Unsat, Spent}
use Rattle.sym_bytes.specs.Under.{bits_under}
use Rattle.terms.specs.Value.{is_met_by, are_met_by}
use Rattle.sym_states.specs.Sides.{Offspring, Lives, by_verdict, offspring_of, offsprings}
use Rattle.sym_states.specs.Splitting.{is_met, met_count, IsNeverDenied, TestsSplit}
use Rattle.sym_states.specs.States.{State, Context}
use Rattle.log_laws.proofs.Tested.{held_value, contradicted_value}
use Rattle.leaves.specs.Fitting.{IsTermOf, AreTermsOf}
use Rattle.sym_states.proofs.Widths.{negation-fits, terms-append}

met_more : (input : List ℕ) (condition : List Tree) (t : Tree) → are_met_by input condition ≡ true → are_met_by input (condition ++ t ∷ []) ≡ is_met_by input t
met_more input [] t met = and_true (is_met_by input t)
  where
    and_true : (b : Bool) → b && true ≡ b
    and_true true = refl
    and_true false = refl
met_more input (c ∷ condition) t met = by_first (is_met_by input c) met (met_more input condition t)
  where
    by_first : (b : Bool) → b && are_met_by input condition ≡ true → (are_met_by input condition ≡ true → are_met_by input (condition ++ t ∷ []) ≡ is_met_by input t)
        → b && are_met_by input (condition ++ t ∷ []) ≡ is_met_by input t
    by_first true met more = more met
    by_first false met more = cc

one_bit : (b : ℕ) → b < 2 ^ 1 → cond (b == 1) 1 0 ≡ b
one_bit b small = elim (cases_Bool (b == 1)) [
  | inl is ↦ ap (λ t. cond t 1 0) is ∙ sym (eqb-true b 1 is)
  | inr other ↦ ap (λ t. cond t 1 0) other ∙ zero_left b small (eqb-false b 1 other)
]
  where
    zero_left : (b : ℕ) → b < 2 ^ 1 → (b ≡ 1 → ⊥) → 0 ≡ b
    zero_left b small other = omega (arith, small, other)

bit_small : (input : List ℕ) (t : Tree) → IsTree t → width_of t ≡ 1 → bits_under input t < 2 ^ 1
bit_small input t h w = subst (λ k. bits_under input t < 2 ^ k) (width-value_of t input h ∙ w) (value_is t input h).fits

plus_none : (n : ℕ) → n + 0 ≡ n
plus_none n = omega arith

one_met : (input : List ℕ) (s : State) (t : Tree) → are_met_by input s.condition ≡ true → IsTree t → width_of t ≡ 1
    → cond (are_met_by input (s.condition ++ t ∷ [])) 1 0 + 0 ≡ bits_under input t
one_met input s t met h w = plus_none _ ∙ ap (λ b. cond b 1 0) (met_more input s.condition t met) ∙ one_bit (bits_under input t) (bit_small input t h w)

by_right : (input : List ℕ) (s : State) (t : Tree) (side : ℕ) (v : Verdict)
    → are_met_by input s.condition ≡ true → IsTree t → width_of t ≡ 1 → (v ≡ Unsat → are_met_by input (s.condition ++ t ∷ []) ≡ false)
    → met_count input (by_verdict v side (s.condition ++ t ∷ [])) ≡ bits_under input t
by_right input s t side (Sat model) met h w right = one_met input s t met h w
by_right input s t side Spent met h w right = one_met input s t met h w
by_right input s t side Unsat met h w right = sym (ap (λ b. cond b 1 0 + 0) (right refl)) ∙ one_met input s t met h w

by_kept : (c : Context) (input : List ℕ) (s : State) (t : Tree) (side : ℕ) (kept : Bool)
    → length s.kept ≡ length input → AreTermsOf (length input) 1 (s.condition ++ t ∷ [])
    → are_met_by input s.condition ≡ true → IsTree t → width_of t ≡ 1 → IsNeverDenied c input
    → met_count input (elim kept [ true ↦ Lives side (s.condition ++ t ∷ []) s.kept ∷ [] | false ↦ by_verdict (c.verdict (s.condition ++ t ∷ []) (length s.kept)) side (s.condition ++ t ∷ []) ])
    ≡ bits_under input t
by_kept c input s t side true size fit met h w right = one_met input s t met h w
by_kept c input s t side false size fit met h w right =
    by_right input s t side (c.verdict (s.condition ++ t ∷ []) (length s.kept)) met h w
    (λ is. right (s.condition ++ t ∷ []) fit (ap (c.verdict (s.condition ++ t ∷ [])) (sym size) ∙ is))

by_answer : (c : Context) (input : List ℕ) (s : State) (t : Tree) (side : ℕ) (a : Added)
    → length s.kept ≡ length input → AreTermsOf (length input) 1 s.condition → IsTermOf (length input) 1 t
    → are_met_by input s.condition ≡ true → IsNeverDenied c input → answer s.condition t ≡ a
    → met_count input (offspring_of c a s t side) ≡ bits_under input t
by_answer c input s t side Held size fit truth met right is = plus_none _ ∙ ap (λ b. cond b 1 0) met ∙ sym (held_value s.condition t input met is)
by_answer c input s t side Appended size fit truth met right is =
    by_kept c input s t side (is_met_by s.kept t) size (terms-append (length input) 1 s.condition (t ∷ []) fit (truth, tt)) met truth.term.tree truth.has_width right
by_answer c input s t side Contradicted size fit truth met right is = sym (contradicted_value s.condition t input (truth.term.tree, truth.has_width) met is)

-- an input that meets the condition meets a side's child once where the side's conjunct is 1, and else not
pub side_split : (c : Context) (input : List ℕ) (s : State) (t : Tree) (side : ℕ)
    → length s.kept ≡ length input → AreTermsOf (length input) 1 s.condition → IsTermOf (length input) 1 t
    → are_met_by input s.condition ≡ true → IsNeverDenied c input
    → met_count input (offspring_of c (answer s.condition t) s t side) ≡ bits_under input t
side_split c input s t side size fit truth met right = by_answer c input s t side (answer s.condition t) size fit truth met right refl

count_append : (input : List ℕ) (os ps : List Offspring) → met_count input (os ++ ps) ≡ met_count input os + met_count input ps
count_append input [] ps = zero_plus (met_count input ps)
  where
    zero_plus : (n : ℕ) → n ≡ 0 + n
    zero_plus n = omega arith
count_append input (o ∷ os) ps = ap (λ n. cond (is_met input o) 1 0 + n) (count_append input os ps) ∙ associates (cond (is_met input o) 1 0) (met_count input os) (met_count input ps)
  where
    associates : (a b c : ℕ) → a + (b + c) ≡ (a + b) + c
    associates a b c = omega arith

-- the two sides of a test: each input that meets the condition meets one child
pub tests_split : TestsSplit
tests_split c input s t size fit truth met right =
    let other = negation-fits (length input) t truth in
    count_append input (offspring_of c (answer s.condition t) s t 0) (offspring_of c (answer s.condition (negation t)) s (negation t) (0 + 1) ++ [])
    ∙ ap (λ n. met_count input (offspring_of c (answer s.condition t) s t 0) + n) (count_append input (offspring_of c (answer s.condition (negation t)) s (negation t) (0 + 1)) [])
    ∙ (λ i. side_split c input s t 0 size fit truth met right i + (side_split c input s (negation t) (0 + 1) size fit other met right i + 0))
    ∙ ap (λ n. bits_under input t + (n + 0)) (ap (λ n. n.bits) (value-folded_one Not t input (truth.term.tree, truth.has_width)))
    ∙ adds_to_one (bits_under input t) (bit_small input t truth.term.tree truth.has_width)
  where
    adds_to_one : (b : ℕ) → b < 2 ^ 1 → b + ((1 - b) + 0) ≡ 1
    adds_to_one b small = omega (arith, small)
