-- How many of the sides of a test or of a choice of ways an input meets.
use Rattle.std.proofs.Common.{◌≡◌, ℕ, Bool, true, false, not, ◌&&◌, ◌==◌, ◌+◌, List, [], ◌∷◌, ◌++◌, map, refl, sym, ◌∙◌, ap, arith, add_assoc}
use Rattle.std.specs.Prelude.{cond}
use Rattle.std.specs.List.{AllByRecursion as Each, IsDistinct}
use Rattle.std.proofs.lemmas.Bool.{eqb-true, false≢true}
use Rattle.bitnum.specs.Number.{Number}
use Rattle.flat_ir.specs.declared.nodes.SwitchCase.{SwitchCase}
use Rattle.terms.specs.declared.term.Binary.TheVariants.{Eq}
use Rattle.terms.specs.Tree.{Tree, IsTree, constant, width_of}
use Rattle.terms.specs.Value.{value_of, is_yes, is_met_by}
use Rattle.terms.proofs.Folds.{both, value-folded_two}
use Rattle.term_store.specs.Condition.{negation}
use Rattle.sym_bytes.specs.Building.{number, equal}
use Rattle.leaves.specs.Fitting.{IsTerm, IsTermOf}
use Rattle.log_laws.proofs.Tested.{yes_truth}
use Rattle.sym_states.specs.Terms.{is_equal, truth_of, branch_sides, case_sides, none_of, switch_sides}
use Rattle.state_laws.specs.Kept.{CasesFit}
use Rattle.state_laws.proofs.Terms.{truth_of-fits, case_sides-fits}
use Rattle.agreement.specs.Premises.{same_number}
use Rattle.agreement.proofs.Numbers.{none_met, met-none}
use Rattle.agreement.proofs.Values.{both-true, met-negation}

abbrev pub one_if : Bool → ℕ
one_if b = cond b 1 0

-- how many of the terms an input meets, if it meets the condition
abbrev pub met_sides : List ℕ → Bool → List Tree → ℕ
met_sides i met [] = 0
met_sides i met (t ∷ ts) = one_if (met && is_met_by i t) + met_sides i met ts

-- sides of which an input that meets the condition meets one
abbrev pub AreSides : List ℕ → List Tree → Type 0
AreSides i ts = (met : Bool) → met_sides i met ts ≡ one_if met

-- ---- a term and its negation

either : (met p : Bool) → one_if (met && p) + (one_if (met && not p) + 0) ≡ one_if met
either true true = refl
either true false = refl
either false p = refl

pub both-sides : (n : ℕ) (t : Tree) (i : List ℕ) → IsTermOf n 1 t → AreSides i (t ∷ negation t ∷ [])
both-sides n t i h met = ap (λ b. one_if (met && is_met_by i t) + (one_if (met && b) + 0)) (met-negation n t i h) ∙ either met (is_met_by i t)

pub branch-sides : (n : ℕ) (t : Tree) (i : List ℕ) → IsTerm n t → AreSides i (branch_sides t)
branch-sides n t i h = both-sides n (truth_of t) i (truth_of-fits n t h)

-- ---- the sides of a switch

-- the value of a term is this number, in as many bits
abbrev is_number : Tree → List ℕ → Number → Bool
is_number v i a = (width_of v == a.width) && ((value_of v i).bits == a.bits)

equal-met : (n : ℕ) (v : Tree) (c : SwitchCase) (i : List ℕ) (same : Bool) → IsTerm n v → IsTree (constant c.number) → (width_of v == c.number.width) ≡ same
    → is_met_by i (cond same (equal v (constant c.number)) (number 1 0)) ≡ (same && ((value_of v i).bits == c.number.bits))
equal-met n v c i true h k e = ap is_yes (value-folded_two Eq v (constant c.number) i (h.tree, k, eqb-true (width_of v) c.number.width e)) ∙ yes_truth ((value_of v i).bits == c.number.bits)
equal-met n v c i false h k e = refl

-- an input meets a case's side where the value is its number
pub met-case : (n : ℕ) (v : Tree) (c : SwitchCase) (i : List ℕ) → IsTerm n v → IsTree (constant c.number) → is_met_by i (is_equal v (constant c.number)) ≡ is_number v i c.number
met-case n v c i h k = equal-met n v c i (width_of v == c.number.width) h k refl

abbrev AtMostOne : List ℕ → List Tree → Type 0
AtMostOne i [] = Unit {0}
AtMostOne i (t ∷ ts) = (is_met_by i t ≡ true → none_met i ts ≡ true) × AtMostOne i ts

abbrev numbers : List SwitchCase → List Number
numbers cases = map (λ c. c.number) cases

-- a value that is one number is no other
other-number : (w b : ℕ) (a d : Number) → ((w == a.width) && (b == a.bits)) ≡ true → same_number a d ≡ false → ((w == d.width) && (b == d.bits)) ≡ false
other-number w b a d e other =
    let parts = both (w == a.width) (b == a.bits) e in
    let wide : w ≡ a.width = eqb-true w a.width parts.0 in
    let bits : b ≡ a.bits = eqb-true b a.bits parts.1 in
    (λ j. (wide j == d.width) && (bits j == d.bits)) ∙ other

cases-none : (n : ℕ) (v : Tree) (cs : List SwitchCase) (a : Number) (i : List ℕ) → IsTerm n v → CasesFit cs → Each (λ d. same_number a d ≡ false) (numbers cs) → is_number v i a ≡ true → none_met i (case_sides v cs) ≡ true
cases-none n v [] a i h fit away is = refl
cases-none n v (c ∷ cs) a i h fit away is =
    both-true (not (is_met_by i (is_equal v (constant c.number)))) (none_met i (case_sides v cs))
    (ap not (met-case n v c i h fit.0 ∙ other-number (width_of v) (value_of v i).bits a c.number is away.0))
    (cases-none n v cs a i h fit.1 away.1 is)

-- of different numbers the value is one at most
at-most-one : (n : ℕ) (v : Tree) (cs : List SwitchCase) (i : List ℕ) → IsTerm n v → CasesFit cs → IsDistinct same_number (numbers cs) → AtMostOne i (case_sides v cs)
unfolding IsDistinct
at-most-one n v [] i h fit e = tt
at-most-one n v (c ∷ cs) i h fit e = (λ met. cases-none n v cs c.number i h fit.1 e.0 (sym (met-case n v c i h fit.0) ∙ met), at-most-one n v cs i h fit.1 e.1)

turned-sum : (n : ℕ) → n + 0 ≡ 0 + n
turned-sum n = omega arith

met-end : (i : List ℕ) (met : Bool) (ts : List Tree) (d : Tree) → met_sides i met (ts ++ d ∷ []) ≡ met_sides i met ts + one_if (met && is_met_by i d)
met-end i met [] d = turned-sum (one_if (met && is_met_by i d))
met-end i met (t ∷ ts) d = ap (λ n. one_if (met && is_met_by i t) + n) (met-end i met ts d) ∙ sym (add_assoc (one_if (met && is_met_by i t)) (met_sides i met ts) (one_if (met && is_met_by i d)))

unmet-one : (met b : Bool) (rest : ℕ) → not b ≡ true → rest ≡ 0 → one_if (met && b) + rest ≡ 0
unmet-one met true rest e z = absurd (false≢true e)
unmet-one true false rest e z = omega (arith, z)
unmet-one false false rest e z = omega (arith, z)

none-count : (i : List ℕ) (met : Bool) (ts : List Tree) → none_met i ts ≡ true → met_sides i met ts ≡ 0
none-count i met [] e = refl
none-count i met (t ∷ ts) e = let parts = both (not (is_met_by i t)) (none_met i ts) e in unmet-one met (is_met_by i t) (met_sides i met ts) parts.0 (none-count i met ts parts.1)

one-more : (met b q : Bool) (rest : ℕ) → (b ≡ true → rest ≡ 0) → rest + one_if (met && q) ≡ one_if met → one_if (met && b) + rest + one_if (met && (not b && q)) ≡ one_if met
one-more true true q rest z h = let e : rest ≡ 0 = z refl in omega (arith, e)
one-more true false q rest z h = (let e : 0 + rest ≡ rest = omega arith in ap (λ n. n + one_if q) e) ∙ h
one-more false b q rest z h = let e : rest + 0 ≡ 0 = h in omega (arith, e)

one-count : (i : List ℕ) (met : Bool) (ts : List Tree) → AtMostOne i ts → met_sides i met ts + one_if (met && none_met i ts) ≡ one_if met
one-count i true [] h = refl
one-count i false [] h = refl
one-count i met (t ∷ ts) h = one-more met (is_met_by i t) (none_met i ts) (met_sides i met ts) (λ is. none-count i met ts (h.0 is)) (one-count i met ts h.1)

pub switch-sides : (n : ℕ) (v : Tree) (cs : List SwitchCase) (i : List ℕ) → IsTerm n v → CasesFit cs → IsDistinct same_number (numbers cs) → AreSides i (switch_sides v cs)
switch-sides n v cs i h fit e met =
    met-end i met (case_sides v cs) (none_of (case_sides v cs))
    ∙ ap (λ b. met_sides i met (case_sides v cs) + one_if (met && b)) (met-none n (case_sides v cs) i (case_sides-fits n v cs h fit))
    ∙ one-count i met (case_sides v cs) (at-most-one n v cs i h fit e)
