-- The values of a tree's terms are numbers of their widths.
use Rattle.std.proofs.Common.{◌≡◌, ℕ, Bool, true, false, List, ◌+◌, ◌*◌, ◌%◌, ◌^◌, ◌≤◌, ◌<◌, refl, sym, ap, ◌∙◌, arith, lit<, lit≤}
use Rattle.std.specs.Prelude.{cond}
use Rattle.std.proofs.Math.Nat.{mod-lt}
use Rattle.std.proofs.lemmas.Nat.{pow-add, mul-add-lt, shl_whole}
use Rattle.bitnum.proofs.Widths.{pow_wider}
use Rattle.bitnum.specs.Number.{Number, IsNumber}
use Rattle.bitnum.proofs.Fits.{applied_is, widened_is, sign_widened_is, narrowed_is}
use Rattle.terms.specs.declared.term.Unary.{Unary}
use Rattle.terms.specs.declared.term.Unary.TheVariants.{Not, Zext, Sext, Trunc, Byte}
use Rattle.terms.specs.declared.term.Binary.{Binary}
use Rattle.terms.specs.declared.term.Binary.TheVariants.{Bin, Eq, Ult, Slt, Join}
use Rattle.terms.specs.Tree.{Tree, constant, input, one, two, choice, width_of, width_of_one, width_of_two, IsTree, FitsOne, FitsTwo}
use Rattle.terms.specs.Value.{truth, is_yes, one_of, two_of, value_of}

pub width-one_of : (op : Unary) (n : Number) → (one_of op n).width ≡ width_of_one op
width-one_of Not n = refl
width-one_of (Zext width) n = refl
width-one_of (Sext width) n = refl
width-one_of (Trunc width) n = refl
width-one_of (Byte j) n = refl

pub width-two_of : (op : Binary) (m n : Number) → (two_of op m n).width ≡ width_of_two op m.width n.width
width-two_of (Bin op) m n = refl
width-two_of Eq m n = refl
width-two_of Ult m n = refl
width-two_of Slt m n = refl
width-two_of Join m n = refl

width-chosen : (test : Bool) (m n : Number) (w : ℕ) → m.width ≡ w → n.width ≡ w → (cond test m n).width ≡ w
width-chosen true m n w p q = p
width-chosen false m n w p q = q

-- a value has its term's width
pub width-value_of : (t : Tree) (bytes : List ℕ) → IsTree t → (value_of t bytes).width ≡ width_of t
width-value_of (constant n) bytes h = refl
width-value_of (input k) bytes h = refl
width-value_of (one op a) bytes h = width-one_of op (value_of a bytes)
width-value_of (two op a b) bytes h =
    width-two_of op (value_of a bytes) (value_of b bytes) ∙ ap (λ v. width_of_two op v (value_of b bytes).width) (width-value_of a bytes h.0) ∙ ap (width_of_two op (width_of a)) (width-value_of b bytes h.1)
width-value_of (choice c a b) bytes h =
    width-chosen (is_yes (value_of c bytes)) _ _ _ (width-value_of a bytes h.1) (width-value_of b bytes h.2 ∙ sym h.4)

pub fits_one : (op : Unary) (a : Tree) (bytes : List ℕ) → IsTree (one op a) → FitsOne op (value_of a bytes).width
fits_one op a bytes h = rw (width-value_of a bytes h.0) h.1

pub fits_two : (op : Binary) (a b : Tree) (bytes : List ℕ) → IsTree (two op a b) → FitsTwo op (value_of a bytes).width (value_of b bytes).width
fits_two op a b bytes h = rw (width-value_of a bytes h.0, width-value_of b bytes h.1) h.2

-- a number above another is below the next power
pub joined-lt : (a b v w : ℕ) → a < 2 ^ v → b < 2 ^ w → a + b * 2 ^ v < 2 ^ (v + w)
joined-lt a b v w p q = rw pow-add (let e = mul-add-lt b (2 ^ v) a (2 ^ w) q p in omega (arith, e))

-- a number that is moved up within a word loses nothing
shifted : (n : Number) (v : ℕ) → IsNumber n → v + n.width ≤ 64 → n.bits * 2 ^ v % 2 ^ 64 ≡ n.bits * 2 ^ v
shifted n v h room = shl_whole n.bits n.width v 64 h.fits (omega arith)

pub joined_is : (m n : Number) → IsNumber m → IsNumber n → m.width + n.width ≤ 64 → m.bits + n.bits * 2 ^ m.width % 2 ^ 64 ≡ m.bits + n.bits * 2 ^ m.width
joined_is m n p q room = ap (λ x. m.bits + x) (shifted n m.width q room)

pub joined_fits : (m n : Number) → IsNumber m → IsNumber n → m.width + n.width ≤ 64 → m.bits + n.bits * 2 ^ m.width % 2 ^ 64 < 2 ^ (m.width + n.width)
joined_fits m n p q room = rw (joined_is m n p q room) (joined-lt m.bits n.bits m.width n.width p.fits q.fits)

pub joined_fits_word : (m n : Number) → IsNumber m → IsNumber n → m.width + n.width ≤ 64 → m.bits + n.bits * 2 ^ m.width % 2 ^ 64 < 2 ^ 64
joined_fits_word m n p q room = omega (arith, joined_fits m n p q room, pow_wider (m.width + n.width) 64 room)

pub truth_is : (test : Bool) → IsNumber (truth test)
truth_is true = record { width_is = record { least = lit≤ tt; most = lit≤ tt }; fits = lit< tt }
truth_is false = record { width_is = record { least = lit≤ tt; most = lit≤ tt }; fits = lit< tt }

pub one_is : (op : Unary) (n : Number) → IsNumber n → FitsOne op n.width → IsNumber (one_of op n)
one_is Not n h fits = record { width_is = record { least = lit≤ tt; most = lit≤ tt }; fits = omega arith }
one_is (Zext width) n h fits = widened_is n width h fits.0 (omega (arith, fits.1))
one_is (Sext width) n h fits = sign_widened_is n width h fits.0 (omega (arith, fits.1))
one_is (Trunc width) n h fits = narrowed_is n width fits.0
one_is (Byte j) n h fits = record { width_is = record { least = lit≤ tt; most = lit≤ tt }; fits = mod-lt _ (lit< tt) }

pub two_is : (op : Binary) (m n : Number) → IsNumber m → IsNumber n → FitsTwo op m.width n.width → IsNumber (two_of op m n)
two_is (Bin op) m n p q fits = applied_is op m n p q fits
two_is Eq m n p q fits = truth_is _
two_is Ult m n p q fits = truth_is _
two_is Slt m n p q fits = truth_is _
two_is Join m n p q fits = record {
  width_is = record { least = omega (arith, p.width_is.least); most = fits.2 };
  fits = joined-lt m.bits n.bits m.width n.width p.fits q.fits;
}

chosen_is : (test : Bool) (m n : Number) → IsNumber m → IsNumber n → IsNumber (cond test m n)
chosen_is true m n p q = p
chosen_is false m n p q = q

-- the value of a tree's term is a number
pub value_is : (t : Tree) (bytes : List ℕ) → IsTree t → IsNumber (value_of t bytes)
value_is (constant n) bytes h = h
value_is (input k) bytes h = record { width_is = record { least = lit≤ tt; most = lit≤ tt }; fits = mod-lt _ (lit< tt) }
value_is (one op a) bytes h = one_is op _ (value_is a bytes h.0) (fits_one op a bytes h)
value_is (two op a b) bytes h = two_is op _ _ (value_is a bytes h.0) (value_is b bytes h.1) (fits_two op a b bytes h)
value_is (choice c a b) bytes h = chosen_is (is_yes (value_of c bytes)) _ _ (value_is a bytes h.1) (value_is b bytes h.2)
