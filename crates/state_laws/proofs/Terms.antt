-- The terms that nodes make of terms over the first n bytes of input are such terms.
use Rattle.std.proofs.Common.{◌≡◌, ℕ, suc, Bool, true, false, ◌&&◌, ◌==◌, ◌-◌, ◌^◌, ◌<◌, ◌≤◌, List, [], ◌∷◌, refl, sym, ◌∙◌, subst, arith, lit≤}
use Rattle.std.specs.Prelude.{cond, nat_lt, nat_le}
use Rattle.std.proofs.lemmas.Bool.{eqb-true, eqb-false, leb-true, leb-false}
use Rattle.std.proofs.Math.Pow.{ones_lt, pow-lt}
use Rattle.std.proofs.lemmas.Nat.{pow_pos}
use Rattle.bitnum.specs.Number.{IsWidth}
use Rattle.bitnum.specs.declared.BinOp.{BinOp}
use Rattle.bitnum.specs.declared.BinOp.TheVariants as op
use Rattle.bitnum.specs.declared.Pred.{Pred}
use Rattle.bitnum.specs.declared.Pred.TheVariants as pred
use Rattle.flat_ir.specs.declared.nodes.CastOp.{CastOp}
use Rattle.flat_ir.specs.declared.nodes.CastOp.TheVariants as to
use Rattle.flat_ir.specs.declared.nodes.SwitchCase.{SwitchCase}
use Rattle.terms.specs.declared.term.Unary.{Unary}
use Rattle.terms.specs.declared.term.Unary.TheVariants.{Zext, Sext, Trunc}
use Rattle.terms.specs.declared.term.Binary.{Binary}
use Rattle.terms.specs.declared.term.Binary.TheVariants.{Bin, Ult, Slt}
use Rattle.terms.specs.Folding.{folded_one, folded_two, folded_choice}
use Rattle.terms.specs.Tree.{Tree, constant, input, IsTree, width_of, width_of_one, width_of_two, FitsOne, FitsTwo}
use Rattle.terms.proofs.Folds.{both, width-folded_one, width-folded_two}
use Rattle.terms.proofs.Kept.{tree-folded_one, tree-folded_two, tree-folded_choice, reads-folded_one, reads-folded_two, reads-folded_choice}
use Rattle.terms.proofs.Numbers.{value_is, width-value_of}
use Rattle.term_store.specs.Condition.{negation}
use Rattle.sym_bytes.specs.Building.{number, wide, equal, same_base}
use Rattle.sym_bytes.specs.Pointers.{Pointer}
use Rattle.leaves.specs.Fitting.{IsTerm, IsTermOf, AreTermsOf}
use Rattle.sym_states.specs.Terms.{calculated, is_equal, compared, compared_terms, alike_pointers, compared_pointers, cast_to, chosen, low_byte, truth_of, size_in, in_64_bits, moved_by_index, input_at, is_nonzero, is_least, is_ones, has_quotient, is_small, is_within, is_start, branch_sides, case_sides, and_none, none_of, switch_sides}
use Rattle.sym_states.proofs.Widths as widths
use Rattle.sym_states.proofs.Widths.{equal-fits, below-fits, negation-fits, wide-fits, byte-fits, behind-fits, terms-append}
use Rattle.state_laws.specs.Kept.{CasesFit}

pub tree-width : (t : Tree) → IsTree t → IsWidth (width_of t)
tree-width t h = subst IsWidth (width-value_of t [] h) (value_is t [] h).width_is

-- a term is one of its width
pub exact : (n w : ℕ) (t : Tree) → IsTerm n t → width_of t ≡ w → IsTermOf n w t
exact n w t h e = record { term = h; has_width = e }

pub term-if : (n : ℕ) (test : Bool) (t u : Tree) → (test ≡ true → IsTerm n t) → (test ≡ false → IsTerm n u) → IsTerm n (cond test t u)
term-if n true t u h k = h refl
term-if n false t u h k = k refl

pub term_of-if : (n w : ℕ) (test : Bool) (t u : Tree) → (test ≡ true → IsTermOf n w t) → (test ≡ false → IsTermOf n w u) → IsTermOf n w (cond test t u)
term_of-if n w true t u h k = h refl
term_of-if n w false t u h k = k refl

pub one-fits : (n : ℕ) (o : Unary) (a : Tree) → IsTerm n a → FitsOne o (width_of a) → IsTermOf n (width_of_one o) (folded_one o a)
one-fits n o a h f = record {
  term = record { tree = tree-folded_one o a (h.tree, f); reads = reads-folded_one n o a h.reads };
  has_width = width-folded_one o a (h.tree, f);
}

pub two-fits : (n : ℕ) (o : Binary) (a b : Tree) → IsTerm n a → IsTerm n b → FitsTwo o (width_of a) (width_of b) → IsTermOf n (width_of_two o (width_of a) (width_of b)) (folded_two o a b)
two-fits n o a b h k f = record {
  term = record { tree = tree-folded_two o a b (h.tree, k.tree, f); reads = reads-folded_two n o a b h.reads k.reads };
  has_width = width-folded_two o a b (h.tree, k.tree, f);
}

pub number-fits : (n w bits : ℕ) → IsWidth w → bits < 2 ^ w → IsTermOf n w (number w bits)
number-fits n w bits h f = record { term = record { tree = record { width_is = h; fits = f }; reads = tt }; has_width = refl }

-- one bit
pub bit-fits : (n bit : ℕ) → bit < 2 → IsTermOf n 1 (number 1 bit)
bit-fits n bit h = number-fits n 1 bit (record { least = lit≤ tt; most = lit≤ tt }) h

pub zero-fits : (n : ℕ) → IsTermOf n 64 (wide 0)
zero-fits n = wide-fits n 0 (lit≤ tt)

-- ---- terms

pub calculated-fits : (n : ℕ) (o : BinOp) (a b : Tree) → IsTerm n a → IsTerm n b → IsTerm n (calculated o a b)
calculated-fits n o a b h k = term-if n (width_of a == width_of b) (folded_two (Bin o) a b) a (λ e. (two-fits n (Bin o) a b h k (eqb-true _ _ e)).term) (λ e. h)

pub is_equal-fits : (n : ℕ) (a b : Tree) → IsTerm n a → IsTerm n b → IsTermOf n 1 (is_equal a b)
is_equal-fits n a b h k = term_of-if n 1 (width_of a == width_of b) (equal a b) (number 1 0)
    (λ e. equal-fits n (width_of b) a b (exact n (width_of b) a h (eqb-true _ _ e)) (exact n (width_of b) b k refl)) (λ e. bit-fits n 0 (lit≤ tt))

pub slt-fits : (n w : ℕ) (a b : Tree) → IsTermOf n w a → IsTermOf n w b → IsTermOf n 1 (folded_two Slt a b)
slt-fits n w a b h k = two-fits n Slt a b h.term k.term (h.has_width ∙ sym k.has_width)

pub compared-fits : (n w : ℕ) (p : Pred) (a b : Tree) → IsTermOf n w a → IsTermOf n w b → IsTermOf n 1 (compared p a b)
compared-fits n w pred.Eq a b h k = equal-fits n w a b h k
compared-fits n w pred.Ne a b h k = negation-fits n (equal a b) (equal-fits n w a b h k)
compared-fits n w pred.Ugt a b h k = below-fits n w b a k h
compared-fits n w pred.Uge a b h k = negation-fits n (folded_two Ult a b) (below-fits n w a b h k)
compared-fits n w pred.Ult a b h k = below-fits n w a b h k
compared-fits n w pred.Ule a b h k = negation-fits n (folded_two Ult b a) (below-fits n w b a k h)
compared-fits n w pred.Sgt a b h k = slt-fits n w b a k h
compared-fits n w pred.Sge a b h k = negation-fits n (folded_two Slt a b) (slt-fits n w a b h k)
compared-fits n w pred.Slt a b h k = slt-fits n w a b h k
compared-fits n w pred.Sle a b h k = negation-fits n (folded_two Slt b a) (slt-fits n w b a k h)

pub compared_terms-fits : (n : ℕ) (p : Pred) (a b : Tree) → IsTerm n a → IsTerm n b → IsTermOf n 1 (compared_terms p a b)
compared_terms-fits n p a b h k = term_of-if n 1 (width_of a == width_of b) (compared p a b) (number 1 0)
    (λ e. compared-fits n (width_of b) p a b (exact n (width_of b) a h (eqb-true _ _ e)) (exact n (width_of b) b k refl)) (λ e. bit-fits n 0 (lit≤ tt))

pub alike_pointers-fits : (n : ℕ) (a b : Pointer) → IsTermOf n 64 a.offset → IsTermOf n 64 b.offset → IsTermOf n 1 (alike_pointers a b)
alike_pointers-fits n a b h k = term_of-if n 1 (same_base a.base b.base) (equal a.offset b.offset) (number 1 0) (λ e. equal-fits n 64 a.offset b.offset h k) (λ e. bit-fits n 0 (lit≤ tt))

pub compared_pointers-fits : (n : ℕ) (p : Pred) (a b : Pointer) → IsTermOf n 64 a.offset → IsTermOf n 64 b.offset → IsTermOf n 1 (compared_pointers p a b)
compared_pointers-fits n pred.Eq a b h k = alike_pointers-fits n a b h k
compared_pointers-fits n _ a b h k = negation-fits n (alike_pointers a b) (alike_pointers-fits n a b h k)

below : (a b : ℕ) → nat_lt a b ≡ true → a < b
below a b e = leb-true (suc a) b e

pub narrower-fits : (n width : ℕ) (a : Tree) → IsTerm n a → (nat_le 1 width && nat_lt width (width_of a)) ≡ true → FitsOne (Trunc width) (width_of a)
narrower-fits n width a h e =
    let parts = both (nat_le 1 width) (nat_lt width (width_of a)) e in
    let least : 1 ≤ width = leb-true 1 width parts.0 in
    let narrow : width < width_of a = below width (width_of a) parts.1 in
    let most : width_of a ≤ 64 = (tree-width a h.tree).most in
    (record { least = least; most = omega (arith, narrow, most) }, narrow)

pub wider-fits : (n width : ℕ) (a : Tree) → (nat_lt (width_of a) width && nat_le width 64) ≡ true → IsWidth width × (width_of a < width)
wider-fits n width a e =
    let parts = both (nat_lt (width_of a) width) (nat_le width 64) e in
    let wider : width_of a < width = below (width_of a) width parts.0 in
    (record { least = omega (arith, wider); most = leb-true width 64 parts.1 }, wider)

pub cast_to-fits : (n : ℕ) (o : CastOp) (width : ℕ) (a : Tree) → IsTerm n a → IsTerm n (cast_to o width a)
cast_to-fits n to.Trunc width a h = term-if n (nat_le 1 width && nat_lt width (width_of a)) (folded_one (Trunc width) a) a (λ e. (one-fits n (Trunc width) a h (narrower-fits n width a h e)).term) (λ e. h)
cast_to-fits n to.Zext width a h = term-if n (nat_lt (width_of a) width && nat_le width 64) (folded_one (Zext width) a) a (λ e. (one-fits n (Zext width) a h (wider-fits n width a e)).term) (λ e. h)
cast_to-fits n to.Sext width a h = term-if n (nat_lt (width_of a) width && nat_le width 64) (folded_one (Sext width) a) a (λ e. (one-fits n (Sext width) a h (wider-fits n width a e)).term) (λ e. h)

pub chosen-fits : (n : ℕ) (c a b : Tree) → IsTerm n c → IsTerm n a → IsTerm n b → IsTerm n (chosen c a b)
chosen-fits n c a b g h k = term-if n ((width_of c == 1) && (width_of a == width_of b)) (folded_choice c a b) a (λ e.
    let parts = both (width_of c == 1) (width_of a == width_of b) e in
    record { tree = tree-folded_choice c a b (g.tree, h.tree, k.tree, eqb-true _ _ parts.0, eqb-true _ _ parts.1); reads = reads-folded_choice n c a b g.reads h.reads k.reads })
    (λ e. h)

byte_width : IsWidth 8
byte_width = record { least = lit≤ tt; most = lit≤ tt }

pub low_byte-fits : (n : ℕ) (t : Tree) → IsTerm n t → IsTermOf n 8 (low_byte t)
low_byte-fits n t h = term_of-if n 8 (width_of t == 8) t _ (λ e. exact n 8 t h (eqb-true _ _ e)) (λ other.
    term_of-if n 8 (nat_lt 8 (width_of t)) (folded_one (Trunc 8) t) (folded_one (Zext 8) t)
    (λ e. one-fits n (Trunc 8) t h (byte_width, below 8 (width_of t) e))
    (λ e. let narrow : width_of t < 8 = omega (arith, leb-false 9 (width_of t) e, eqb-false (width_of t) 8 other) in one-fits n (Zext 8) t h (byte_width, narrow)))

pub truth_of-fits : (n : ℕ) (t : Tree) → IsTerm n t → IsTermOf n 1 (truth_of t)
truth_of-fits n t h = term_of-if n 1 (width_of t == 1) t (number 1 0) (λ e. exact n 1 t h (eqb-true _ _ e)) (λ e. bit-fits n 0 (lit≤ tt))

pub size_in-fits : (n : ℕ) (t : Tree) → IsTerm n t → IsTermOf n 64 (size_in t)
size_in-fits n t h = term_of-if n 64 (width_of t == 64) t (wide 0) (λ e. exact n 64 t h (eqb-true _ _ e)) (λ e. zero-fits n)

pub in_64_bits-fits : (n : ℕ) (t : Tree) → IsTerm n t → IsTermOf n 64 (in_64_bits t)
in_64_bits-fits n t h = term_of-if n 64 (width_of t == 64) t (folded_one (Sext 64) t) (λ e. exact n 64 t h (eqb-true _ _ e)) (λ other.
    let most : width_of t ≤ 64 = (tree-width t h.tree).most in
    let narrow : width_of t < 64 = omega (arith, most, eqb-false (width_of t) 64 other) in
    one-fits n (Sext 64) t h (record { least = lit≤ tt; most = lit≤ tt }, narrow))

pub moved_by_index-fits : (n : ℕ) (offset : Tree) (scale : ℕ) (index : Tree) → IsTermOf n 64 offset → scale < 2 ^ 64 → IsTerm n index → IsTermOf n 64 (moved_by_index offset scale index)
moved_by_index-fits n offset scale index h small k =
    widths.calculated-fits n 64 op.Add offset (folded_two (Bin op.Mul) (wide scale) (in_64_bits index)) h
    (widths.calculated-fits n 64 op.Mul (wide scale) (in_64_bits index) (wide-fits n scale small) (in_64_bits-fits n index k))

word_width : IsWidth 32
word_width = record { least = lit≤ tt; most = lit≤ tt }

pub input_at-fits : (n k : ℕ) → n ≤ 64 → IsTermOf n 32 (input_at n k)
input_at-fits n k most = term_of-if n 32 (nat_lt k n) (folded_one (Zext 32) (input k)) _
    (λ e. let small : k < n = below k n e in one-fits n (Zext 32) (input k) (record { tree = omega (arith, small, most); reads = small }) (word_width, lit≤ tt))
    (λ e. number-fits n 32 _ word_width (ones_lt 32))

-- ---- tests

pub is_nonzero-fits : (n : ℕ) (b : Tree) → IsTerm n b → IsTermOf n 1 (is_nonzero b)
is_nonzero-fits n b h = negation-fits n (equal b (number (width_of b) 0)) (equal-fits n (width_of b) b (number (width_of b) 0) (exact n (width_of b) b h refl) (number-fits n (width_of b) 0 (tree-width b h.tree) (pow_pos (width_of b))))

half : (w : ℕ) → 1 ≤ w → 2 ^ (w - 1) < 2 ^ w
half w h = pow-lt (omega (arith, h))

pub is_least-fits : (n : ℕ) (a : Tree) → IsTerm n a → IsTermOf n 1 (is_least a)
is_least-fits n a h = equal-fits n (width_of a) a (number (width_of a) (2 ^ (width_of a - 1))) (exact n (width_of a) a h refl) (number-fits n (width_of a) _ (tree-width a h.tree) (half (width_of a) (tree-width a h.tree).least))

pub is_ones-fits : (n : ℕ) (b : Tree) → IsTerm n b → IsTermOf n 1 (is_ones b)
is_ones-fits n b h = equal-fits n (width_of b) b (number (width_of b) (2 ^ width_of b - 1)) (exact n (width_of b) b h refl) (number-fits n (width_of b) _ (tree-width b h.tree) (ones_lt (width_of b)))

pub has_quotient-fits : (n : ℕ) (a b : Tree) → IsTerm n a → IsTerm n b → IsTermOf n 1 (has_quotient a b)
has_quotient-fits n a b h k = negation-fits n (folded_two (Bin op.And) (is_least a) (is_ones b)) (widths.calculated-fits n 1 op.And (is_least a) (is_ones b) (is_least-fits n a h) (is_ones-fits n b k))

pub is_small-fits : (n : ℕ) (size : Tree) → IsTermOf n 64 size → IsTermOf n 1 (is_small size)
is_small-fits n size h = negation-fits n (folded_two Ult (wide 65536) size) (below-fits n 64 (wide 65536) size (wide-fits n 65536 (lit≤ tt)) h)

pub is_within-fits : (n : ℕ) (size : Tree) (count : ℕ) (offset : Tree) → IsTermOf n 64 size → count < 2 ^ 64 → IsTermOf n 64 offset → IsTermOf n 1 (is_within size count offset)
is_within-fits n size count offset h small k =
    let room = folded_two (Bin op.Sub) size (wide count) in
    let counts = wide-fits n count small in
    widths.calculated-fits n 1 op.And (negation (folded_two Ult size (wide count))) (negation (folded_two Ult room offset))
    (negation-fits n (folded_two Ult size (wide count)) (below-fits n 64 size (wide count) h counts))
    (negation-fits n (folded_two Ult room offset) (below-fits n 64 room offset (widths.calculated-fits n 64 op.Sub size (wide count) h counts) k))

pub is_start-fits : (n : ℕ) (offset : Tree) → IsTermOf n 64 offset → IsTermOf n 1 (is_start offset)
is_start-fits n offset h = equal-fits n 64 offset (wide 0) h (zero-fits n)

-- ---- sides

pub branch_sides-fits : (n : ℕ) (t : Tree) → IsTerm n t → AreTermsOf n 1 (branch_sides t)
branch_sides-fits n t h = (truth_of-fits n t h, (negation-fits n (truth_of t) (truth_of-fits n t h), tt))

pub case_sides-fits : (n : ℕ) (v : Tree) (cs : List SwitchCase) → IsTerm n v → CasesFit cs → AreTermsOf n 1 (case_sides v cs)
case_sides-fits n v [] h k = tt
case_sides-fits n v (c ∷ cs) h k = (is_equal-fits n v (constant c.number) h (record { tree = k.0; reads = tt }), case_sides-fits n v cs h k.1)

pub and_none-fits : (n : ℕ) (t : Tree) (us : List Tree) → IsTermOf n 1 t → AreTermsOf n 1 us → IsTermOf n 1 (and_none t us)
and_none-fits n t [] h k = h
and_none-fits n t (u ∷ us) h k = and_none-fits n (folded_two (Bin op.And) t (negation u)) us (widths.calculated-fits n 1 op.And t (negation u) h (negation-fits n u k.0)) k.1

pub none_of-fits : (n : ℕ) (ts : List Tree) → AreTermsOf n 1 ts → IsTermOf n 1 (none_of ts)
none_of-fits n ts h = and_none-fits n (number 1 1) ts (bit-fits n 1 (lit≤ tt)) h

pub switch_sides-fits : (n : ℕ) (v : Tree) (cs : List SwitchCase) → IsTerm n v → CasesFit cs → AreTermsOf n 1 (switch_sides v cs)
switch_sides-fits n v cs h k =
    let fit = case_sides-fits n v cs h k in
    terms-append n 1 (case_sides v cs) (none_of (case_sides v cs) ∷ []) fit (none_of-fits n (case_sides v cs) fit, tt)
