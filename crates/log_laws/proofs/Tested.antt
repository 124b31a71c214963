-- What the answers of a condition say of a test's value under an input that meets the condition.
use Rattle.std.proofs.Common.{◌≡◌, ℕ, Bool, true, false, List, ◌+◌, ◌%◌, ◌^◌, ◌==◌, ◌<◌, refl, sym, ap, ◌∙◌, lit≤}
use Rattle.bitnum.specs.Number.{IsNumber}
use Rattle.bitnum.specs.declared.BinOp.TheVariants as op
use Rattle.terms.specs.declared.term.Binary.TheVariants.{Bin, Eq}
use Rattle.terms.specs.declared.term.Unary.TheVariants.{Not}
use Rattle.terms.specs.Tree.{Tree, one, two, IsTree}
use Rattle.terms.specs.Value.{truth, is_yes, value_of, are_met_by}
use Rattle.terms.proofs.Numbers.{width-value_of}
use Rattle.terms.proofs.Folds.{value-folded_two, width-folded_two}
use Rattle.terms.proofs.Kept.{tree-folded_two}
use Rattle.term_store.specs.Condition.{answer}
use Rattle.term_store.specs.declared.conditions.Added.TheVariants.{Held, Contradicted}
use Rattle.term_store.proofs.Meets as meets
use Rattle.sym_bytes.specs.Building.{wide, equal, behind}
use Rattle.sym_bytes.specs.Fitting.{IsWide}

-- a test that the condition holds is 1
pub held_value : (known : List Tree) (t : Tree) (bytes : List ℕ) → are_met_by bytes known ≡ true → answer known t ≡ Held → (value_of t bytes).bits ≡ 1
held_value known t bytes met e = meets.held_value known t bytes met (sym e)

-- a test that contradicts the condition is 0
pub contradicted_value : (known : List Tree) (t : Tree) (bytes : List ℕ) → IsTree (one Not t) → are_met_by bytes known ≡ true → answer known t ≡ Contradicted → (value_of t bytes).bits ≡ 0
contradicted_value known t bytes h met e = meets.contradicted_value known t bytes h met (sym e)

pub wide_is : (j : ℕ) → j < 2 ^ 64 → IsNumber (record { width = 64; bits = j })
wide_is j h = record { width_is = record { least = lit≤ tt; most = lit≤ tt }; fits = h }

behind_tree : (offset : Tree) (j : ℕ) → IsWide offset → j < 2 ^ 64 → IsTree (two (Bin op.Add) offset (wide j))
behind_tree offset j h small = (h.0, wide_is j small, h.1)

pub behind_is : (offset : Tree) (j : ℕ) → IsWide offset → j < 2 ^ 64 → IsWide (behind offset j)
behind_is offset j h small =
    (tree-folded_two (Bin op.Add) offset (wide j) (behind_tree offset j h small), width-folded_two (Bin op.Add) offset (wide j) (behind_tree offset j h small) ∙ h.1)

pub behind_value : (offset : Tree) (j : ℕ) (bytes : List ℕ) → IsWide offset → j < 2 ^ 64 → (value_of (behind offset j) bytes).bits ≡ ((value_of offset bytes).bits + j) % 2 ^ 64
behind_value offset j bytes h small =
    ap (λ n. n.bits) (value-folded_two (Bin op.Add) offset (wide j) bytes (behind_tree offset j h small))
    ∙ ap (λ w. ((value_of offset bytes).bits + j) % 2 ^ w) (width-value_of offset bytes h.0 ∙ h.1)

equal_tree : (a b : Tree) → IsWide a → IsWide b → IsTree (two Eq a b)
equal_tree a b g h = (g.0, h.0, g.1 ∙ sym h.1)

pub equal_is : (a b : Tree) → IsWide a → IsWide b → IsTree (one Not (equal a b))
equal_is a b g h = (tree-folded_two Eq a b (equal_tree a b g h), width-folded_two Eq a b (equal_tree a b g h))

pub equal_value : (a b : Tree) (bytes : List ℕ) → IsWide a → IsWide b → value_of (equal a b) bytes ≡ truth ((value_of a bytes).bits == (value_of b bytes).bits)
equal_value a b bytes g h = value-folded_two Eq a b bytes (equal_tree a b g h)

pub truth_one : (b : Bool) → (truth b).bits ≡ 1 → b ≡ true
truth_one true e = refl
truth_one false e = cc

pub truth_zero : (b : Bool) → (truth b).bits ≡ 0 → b ≡ false
truth_zero true e = cc
truth_zero false e = refl

pub yes_truth : (b : Bool) → is_yes (truth b) ≡ b
yes_truth true = refl
yes_truth false = refl
