-- Bytes that are integers, and the number that they make under an input.
use Rattle.std.proofs.Common.{◌≡◌, ℕ, suc, Bool, true, false, lit≤, lit<, ◌≤◌, ◌==◌, ◌+◌, ◌*◌, ◌^◌, ◌<◌, List, [], ◌∷◌, length, map, Option, Some, None, refl, sym, ap, ◌∙◌, arith}
use Rattle.std.specs.Prelude.{is_some}
use Rattle.std.specs.List.{list_all}
use Rattle.std.proofs.Math.Nat.{mul-mod_right}
use Rattle.bitnum.specs.Number.{IsNumber}
use Rattle.terms.specs.declared.term.Binary.TheVariants.{Eq}
use Rattle.terms.specs.declared.term.Unary.TheVariants.{Byte}
use Rattle.terms.specs.Folding.{constant_of}
use Rattle.terms.specs.Joining as terms
use Rattle.terms.specs.Joining.{joined_of, folded_join, spine, is_whole, inside_byte, fold_whole}
use Rattle.terms.specs.Tree.{Tree, constant, one, two, IsTree}
use Rattle.terms.specs.Value.{truth, is_yes, value_of}
use Rattle.terms.proofs.Bytes.{value-folded_join, width-folded_join, width-spine}
use Rattle.terms.proofs.Folds.{number_eq, value-folded_two}
use Rattle.terms.proofs.Kept.{cond_has}
use Rattle.terms.proofs.Numbers.{width-value_of, value_is}
use Rattle.sym_bytes.specs.Building.{equal, wide}
use Rattle.flat_ir.specs.declared.nodes.RegType.TheVariants as type
use Rattle.flat_ir.specs.declared.values.ConcreteByte.{ConcreteByte}
use Rattle.flat_ir.specs.declared.values.ConcreteValue.TheVariants.{Int}
use Rattle.flat_ir.specs.Registers.{joined, joined_number, number_of_width}
use Rattle.sym_bytes.specs.Byte as byte
use Rattle.sym_bytes.specs.Byte.{SymByte}
use Rattle.sym_bytes.specs.Joining.{put_before, ints_of}
use Rattle.sym_bytes.specs.Under.{Results, bits_under, byte_under}
use Rattle.byte_laws.specs.Types.{AreBytes}

-- the bytes that these stand for
abbrev pub under : List ℕ → Results → List SymByte → List ConcreteByte
under input results bs = map (byte_under input results) bs

-- none is a byte of a result
abbrev pub NonePending : List SymByte → Type 0
NonePending [] = Unit {0}
NonePending (byte.Int t ∷ bs) = NonePending bs
NonePending (byte.PtrByte p j ∷ bs) = NonePending bs
NonePending (byte.PendingByte c t j ∷ bs) = ⊥

abbrev pub from_option : {A : Type 0} → A → Option A → A
from_option other (Some x) = x
from_option other None = other

pub put_some : {A : Type 0} (x : A) (o : Option (List A)) (xs : List A) → put_before (Some x) o ≡ Some xs → (rest : List A) × (o ≡ Some rest) × (x ∷ rest ≡ xs)
put_some x (Some rest) xs e = (rest, refl, ap (from_option (x ∷ rest)) e)
put_some x None xs e = cc

pub put_none : {A : Type 0} (x : A) (o : Option (List A)) → put_before (Some x) o ≡ None → o ≡ None
put_none x (Some rest) e = cc
put_none x None e = refl

-- bytes that all are integers are those of their terms
pub ints_are : (bs : List SymByte) (ts : List Tree) → ints_of bs ≡ Some ts → map byte.Int ts ≡ bs
ints_are [] ts e = ap (λ o. map byte.Int (from_option ts o)) (sym e)
ints_are (byte.Int t ∷ bs) ts e =
    let parts = put_some t (ints_of bs) ts e in
    ap (map byte.Int) (sym parts.2) ∙ ap (λ more. byte.Int t ∷ more) (ints_are bs parts.0 parts.1)
ints_are (byte.PtrByte p j ∷ bs) ts e = cc
ints_are (byte.PendingByte c t j ∷ bs) ts e = cc

pub length_ints : (ts : List Tree) → length (map byte.Int ts) ≡ length ts
length_ints [] = refl
length_ints (t ∷ ts) = ap suc (length_ints ts)

-- the bits of integers in a row
pub ints_number : (input : List ℕ) (results : Results) (t : Tree) (ts : List Tree) → AreBytes (map byte.Int (t ∷ ts))
    → joined_number (under input results (map byte.Int (t ∷ ts))) ≡ Some (joined_of (map (λ u. value_of u input) (t ∷ ts))).bits
ints_number input results t [] h = ap Some (omega arith)
ints_number input results t (u ∷ us) h =
    let width : (value_of t input).width ≡ 8 = width-value_of t input h.0.0 ∙ h.0.1 in
    let more : ℕ = (joined_of (map (λ v. value_of v input) (u ∷ us))).bits in
    let turned : bits_under input t + 256 * more ≡ bits_under input t + more * 2 ^ 8 = omega arith in
    ap (λ o. elim o [ None ↦ None | Some n ↦ Some (bits_under input t + 256 * n) ]) (ints_number input results u us h.1)
    ∙ ap Some (turned ∙ ap (λ w. bits_under input t + more * 2 ^ w) (sym width))

ints_width : (input : List ℕ) (t : Tree) (ts : List Tree) → AreBytes (map byte.Int (t ∷ ts))
    → (joined_of (map (λ u. value_of u input) (t ∷ ts))).width ≡ 8 * length (t ∷ ts)
ints_width input t [] h = width-value_of t input h.0.0 ∙ h.0.1
ints_width input t (u ∷ us) h = omega (arith, width-value_of t input h.0.0, h.0.1, ints_width input u us h.1)

-- integers make the number of their join
pub ints_value : (input : List ℕ) (results : Results) (width : ℕ) (ts : List Tree) → AreBytes (map byte.Int ts) → 0 < length ts → width ≡ 8 * length ts
    → joined (type.Int width) (under input results (map byte.Int ts)) ≡ Some (Int (value_of (folded_join ts) input))
ints_value input results width [] h some size = absurd (omega (arith, some))
ints_value input results width (t ∷ ts) h some size =
    ap (number_of_width width) (ints_number input results t ts h)
    ∙ ap (λ n. Some (Int n)) (number_eq _ _ (size ∙ sym (ints_width input t ts h)) refl ∙ sym (value-folded_join t ts input h.0.0))

widths : (ts : List Tree) → AreBytes (map byte.Int ts) → terms.AreBytes ts
widths [] h = tt
widths (t ∷ ts) h = (h.0.1, widths ts h.1)

tree_spine : (t : Tree) (ts : List Tree) → AreBytes (map byte.Int (t ∷ ts)) → length (t ∷ ts) ≤ 8 → IsTree (spine (t ∷ ts))
tree_spine t [] h most = h.0.0
tree_spine t (u ∷ us) h most =
    let width = width-spine u us (widths (u ∷ us) h.1) in
    (h.0.0, tree_spine u us h.1 (omega (arith, most)), (h.0.1, rw width (mul-mod_right 8 (length (u ∷ us))), omega (arith, width, h.0.1, most)))

tree_inside : (t : Tree) (ts : List Tree) → IsTree t → IsTree (spine (t ∷ ts)) → IsTree (fold_whole (inside_byte t) (t ∷ ts))
tree_inside (one (Byte j) whole) ts h s = cond_has IsTree (is_whole whole (one (Byte j) whole ∷ ts)) whole (spine (one (Byte j) whole ∷ ts)) h.0 s
tree_inside t ts h s = s

tree-folded_join : (t : Tree) (ts : List Tree) → AreBytes (map byte.Int (t ∷ ts)) → length (t ∷ ts) ≤ 8 → IsTree (folded_join (t ∷ ts))
unfolding folded_join
tree-folded_join t ts h most =
    let tree = tree_spine t ts h most in
    cond_has IsTree (list_all (λ u. is_some (constant_of u)) (t ∷ ts)) (constant (value_of (spine (t ∷ ts)) [])) (fold_whole (inside_byte t) (t ∷ ts))
    (value_is (spine (t ∷ ts)) [] tree) (tree_inside t ts h.0.0 tree)

pub yes_truth : (b : Bool) → is_yes (truth b) ≡ b
yes_truth true = refl
yes_truth false = refl

wide_is : IsNumber (record { width = 64; bits = 0 })
wide_is = record { width_is = record { least = lit≤ tt; most = lit≤ tt }; fits = lit< tt }

-- eight integers make the bits of their join, and whether these are 0 is what a test says
pub ints_zero : (input : List ℕ) (results : Results) (ts : List Tree) → AreBytes (map byte.Int ts) → length ts ≡ 8
    → (joined_number (under input results (map byte.Int ts)) ≡ Some (bits_under input (folded_join ts)))
    × (is_yes (value_of (equal (folded_join ts) (wide 0)) input) ≡ (bits_under input (folded_join ts) == 0))
ints_zero input results [] h size = absurd (omega (arith, size))
ints_zero input results (t ∷ ts) h size =
    let tree = tree-folded_join t ts h (omega (arith, size)) in
    let width = width-folded_join (t ∷ ts) (omega arith) (widths (t ∷ ts) h) in
    let fits : IsTree (two Eq (folded_join (t ∷ ts)) (wide 0)) = (tree, wide_is, omega (arith, width, size)) in (
      ints_number input results t ts h ∙ ap (λ n. Some n.bits) (sym (value-folded_join t ts input h.0.0)),
      ap is_yes (value-folded_two Eq (folded_join (t ∷ ts)) (wide 0) input fits) ∙ yes_truth _,
    )

-- where one isn't an integer there is no number
pub no_number : (input : List ℕ) (results : Results) (bs : List SymByte) → NonePending bs → ints_of bs ≡ None → joined_number (under input results bs) ≡ None
no_number input results [] h e = cc
no_number input results (byte.Int t ∷ bs) h e =
    ap (λ o. elim o [ None ↦ None | Some n ↦ Some (bits_under input t + 256 * n) ]) (no_number input results bs h (put_none t (ints_of bs) e))
no_number input results (byte.PtrByte p j ∷ bs) h e = refl
no_number input results (byte.PendingByte c t j ∷ bs) h e = absurd h
