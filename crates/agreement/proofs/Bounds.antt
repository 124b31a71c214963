-- The tests of an access and of a free, under an input.
use Rattle.std.proofs.Common.{◌≡◌, ℕ, suc, not, ◌&&◌, ◌==◌, ◌+◌, ◌-◌, ◌%◌, ◌^◌, ◌<◌, ◌≤◌, List, sym, ◌∙◌, ap, subst, arith, lit≤, inl, inr}
use Rattle.std.specs.Prelude.{nat_lt, nat_le}
use Rattle.std.proofs.lemmas.Bool.{cases_Bool, leb-true, leb-false, le-leb, lt-leb}
use Rattle.bitnum.specs.declared.BinOp.TheVariants as op
use Rattle.bitnum.specs.declared.Pred.TheVariants as pred
use Rattle.terms.specs.declared.term.Binary.TheVariants.{Bin, Ult}
use Rattle.terms.specs.Tree.{Tree}
use Rattle.terms.specs.Value.{is_yes, value_of, is_met_by}
use Rattle.terms.specs.Folding.{folded_two}
use Rattle.terms.proofs.Folds.{value-folded_two}
use Rattle.terms.proofs.Numbers.{value_is, width-value_of}
use Rattle.term_store.specs.Condition.{negation}
use Rattle.flat_ir.specs.Steps as concrete
use Rattle.sym_bytes.specs.Building.{wide}
use Rattle.sym_bytes.specs.Under.{bits_under}
use Rattle.leaves.specs.Fitting.{IsTermOf}
use Rattle.sym_states.specs.Terms.{is_within, is_start}
use Rattle.log_laws.proofs.Tested.{yes_truth}
use Rattle.sym_states.proofs.Widths.{calculated-fits, below-fits, negation-fits, wide-fits}
use Rattle.agreement.proofs.Values.{met-negation, met-and, met-equal, value-compared}

-- a number of 64 bits is below 2 ^ 64
wide-small : (n : ℕ) (t : Tree) (i : List ℕ) → IsTermOf n 64 t → bits_under i t < 2 ^ 64
wide-small n t i h = subst (λ w. (value_of t i).bits < 2 ^ w) (width-value_of t i h.term.tree ∙ h.has_width) (value_is t i h.term.tree).fits

met-below : (n : ℕ) (a b : Tree) (i : List ℕ) → IsTermOf n 64 a → IsTermOf n 64 b → is_met_by i (folded_two Ult a b) ≡ nat_lt (bits_under i a) (bits_under i b)
met-below n a b i h k = ap is_yes (value-compared n 64 pred.Ult a b i h k) ∙ yes_truth (nat_lt (bits_under i a) (bits_under i b))

value-left : (n : ℕ) (a b : Tree) (i : List ℕ) → IsTermOf n 64 a → IsTermOf n 64 b → bits_under i (folded_two (Bin op.Sub) a b) ≡ (bits_under i a + (2 ^ 64 - bits_under i b) % 2 ^ 64) % 2 ^ 64
value-left n a b i h k =
    ap (λ m. m.bits) (value-folded_two (Bin op.Sub) a b i (h.term.tree, k.term.tree, h.has_width ∙ sym k.has_width))
    ∙ ap (λ w. ((value_of a i).bits + (2 ^ w - (value_of b i).bits) % 2 ^ w) % 2 ^ w) (width-value_of a i h.term.tree ∙ h.has_width)

-- what a difference of two numbers is, where it doesn't wrap
left-over : (size count : ℕ) → size < 2 ^ 64 → count ≤ size → (size + (2 ^ 64 - count) % 2 ^ 64) % 2 ^ 64 ≡ size - count
left-over size count small few = omega (arith, small, few)

not-below : (a b : ℕ) → not (nat_lt a b) ≡ nat_le b a
not-below a b = elim (cases_Bool (nat_lt a b)) [
  | inl less ↦ ap not less ∙ sym (lt-leb b a (leb-true (suc a) b less))
  | inr more ↦ ap not more ∙ sym (le-leb b a (omega (arith, leb-false (suc a) b more)))
]

both-within : (offset count size left : ℕ) → (count ≤ size → left ≡ size - count) → not (nat_lt size count) && not (nat_lt left offset) ≡ concrete.is_within offset count size
both-within offset count size left is = elim (cases_Bool (nat_le count size)) [
  | inl few ↦ (λ j. not-below size count j && not-below left offset j) ∙ ap (λ l. nat_le count size && nat_le offset l) (is (leb-true count size few))
  | inr many ↦ ap (λ b. b && not (nat_lt left offset)) (not-below size count ∙ many) ∙ ap (λ b. b && nat_le offset (size - count)) (sym many)
]

-- the test of the bounds is that of the run
pub met-within : (n : ℕ) (size : Tree) (count : ℕ) (offset : Tree) (i : List ℕ) → IsTermOf n 64 size → count < 2 ^ 64 → IsTermOf n 64 offset
    → is_met_by i (is_within size count offset) ≡ concrete.is_within (bits_under i offset) count (bits_under i size)
met-within n size count offset i h small k =
    let c = wide-fits n count small in
    let left = folded_two (Bin op.Sub) size (wide count) in
    let left-fits = calculated-fits n 64 op.Sub size (wide count) h c in
    let first = folded_two Ult size (wide count) in
    let second = folded_two Ult left offset in
    let first-fits = below-fits n 64 size (wide count) h c in
    let second-fits = below-fits n 64 left offset left-fits k in
    let p = met-negation n first i first-fits ∙ ap not (met-below n size (wide count) i h c) in
    let q = met-negation n second i second-fits ∙ ap not (met-below n left offset i left-fits k) in
    met-and n (negation first) (negation second) i (negation-fits n first first-fits) (negation-fits n second second-fits)
    ∙ (λ j. p j && q j)
    ∙ both-within (bits_under i offset) count (bits_under i size) (bits_under i left) (λ few. value-left n size (wide count) i h c ∙ left-over (bits_under i size) count (wide-small n size i h) few)

-- the test of an object's start is that of the run
pub met-start : (n : ℕ) (offset : Tree) (i : List ℕ) → IsTermOf n 64 offset → is_met_by i (is_start offset) ≡ (bits_under i offset == 0)
met-start n offset i h = met-equal n 64 0 offset i h (lit≤ tt)
