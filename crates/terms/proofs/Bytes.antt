-- A join has the value of its bytes in a row.
use Rattle.std.proofs.Common.{◌≡◌, ℕ, true, false, List, [], ◌∷◌, length, map, ◌+◌, ◌*◌, ◌/◌, ◌%◌, ◌^◌, ◌<◌, ◌≤◌, ◌==◌, get_or, Option, Some, None, refl, sym, ap, ◌∙◌, subst, arith}
use Rattle.std.specs.Prelude.{is_some}
use Rattle.std.specs.List.{list_all}
use Rattle.std.proofs.lemmas.Bool.{eqb-true}
use Rattle.std.proofs.lemmas.Nat.{shr-shr, mod-pow-add}
use Rattle.std.proofs.Math.Nat.{mod-eq_of_lt, div-one, mul-mod_right}
use Rattle.terms.specs.declared.term.Unary.TheVariants.{Byte}
use Rattle.terms.specs.declared.term.Binary.TheVariants.{Join}
use Rattle.terms.specs.Tree.{Tree, constant, one, width_of, IsTree, FitsTwo}
use Rattle.terms.specs.Value.{two_of, value_of, ReadsBelow}
use Rattle.terms.specs.Same.{same, same-true}
use Rattle.terms.specs.Folding.{constant_of}
use Rattle.terms.specs.Joining.{joined_of, spine, AreBytes, ReadBelow, are_bytes_of, is_whole, inside_byte, fold_whole, folded_join}
use Rattle.terms.proofs.Numbers.{value_is, width-value_of}
use Rattle.terms.proofs.Folds.{number_eq, both, value-chosen, width-chosen}
use Rattle.terms.proofs.Kept.{cond_has}

pub width-spine : (t : Tree) (ts : List Tree) → AreBytes (t ∷ ts) → width_of (spine (t ∷ ts)) ≡ 8 * length (t ∷ ts)
width-spine t [] h = omega (arith, h.0)
width-spine t (u ∷ ts) h = omega (arith, h.0, width-spine u ts h.1)

value-spine : (t : Tree) (ts : List Tree) (bytes : List ℕ) → value_of (spine (t ∷ ts)) bytes ≡ joined_of (map (λ u. value_of u bytes) (t ∷ ts))
value-spine t [] bytes = refl
value-spine t (u ∷ ts) bytes = ap (two_of Join (value_of t bytes)) (value-spine u ts bytes)

-- ---- constants

steady : (t : Tree) (bytes : List ℕ) → is_some (constant_of t) ≡ true → value_of t [] ≡ value_of t bytes
steady (constant n) bytes e = refl
steady t bytes e = cc

steady_spine : (ts : List Tree) (bytes : List ℕ) → list_all (λ u. is_some (constant_of u)) ts ≡ true → value_of (spine ts) [] ≡ value_of (spine ts) bytes
steady_spine [] bytes e = refl
steady_spine (t ∷ []) bytes e = steady t bytes (both (is_some (constant_of t)) true e).0
steady_spine (t ∷ u ∷ ts) bytes e =
    let parts = both (is_some (constant_of t)) (list_all (λ v. is_some (constant_of v)) (u ∷ ts)) e in
    ap (λ n. two_of Join n (value_of (spine (u ∷ ts)) [])) (steady t bytes parts.0) ∙ ap (two_of Join (value_of t bytes)) (steady_spine (u ∷ ts) bytes parts.1)

-- ---- all bytes of one term

-- a byte below the bits that stand above it
byte_below : (n j m : ℕ) → n / 2 ^ (8 * j) % 2 ^ 8 + n / 2 ^ (8 * (j + 1)) % 2 ^ m * 2 ^ 8 ≡ n / 2 ^ (8 * j) % 2 ^ (m + 8)
byte_below n j m =
    let next : 8 * (j + 1) ≡ 8 * j + 8 = omega arith in
    let above : n / 2 ^ (8 * (j + 1)) ≡ n / 2 ^ (8 * j) / 2 ^ 8 = ap (λ k. n / 2 ^ k) next ∙ sym (shr-shr n (8 * j) 8) in
    let split = mod-pow-add (n / 2 ^ (8 * j)) m 8 in
    rw above (omega (arith, split))

value-bytes_of : (whole : Tree) (j : ℕ) (t : Tree) (ts : List Tree) (bytes : List ℕ) → are_bytes_of whole j (t ∷ ts) ≡ true
    → value_of (spine (t ∷ ts)) bytes ≡ record { width = 8 * length (t ∷ ts); bits = (value_of whole bytes).bits / 2 ^ (8 * j) % 2 ^ (8 * length (t ∷ ts)) }
value-bytes_of whole j t [] bytes e =
    ap (λ u. value_of u bytes) (sym (same-true _ _ (both (same (one (Byte j) whole) t) true e).0))
value-bytes_of whole j t (u ∷ ts) bytes e =
    let parts = both (same (one (Byte j) whole) t) (are_bytes_of whole (j + 1) (u ∷ ts)) e in
    let first : value_of t bytes ≡ value_of (one (Byte j) whole) bytes = ap (λ v. value_of v bytes) (sym (same-true _ _ parts.0)) in
    let size : 8 * length (u ∷ ts) + 8 ≡ 8 * length (t ∷ u ∷ ts) = omega arith in
    rw (first, value-bytes_of whole (j + 1) u ts bytes parts.1)
    (number_eq _ _ (omega arith) (byte_below (value_of whole bytes).bits j (8 * length (u ∷ ts)) ∙ ap (λ k. (value_of whole bytes).bits / 2 ^ (8 * j) % 2 ^ k) size))

value-whole : (whole t : Tree) (ts : List Tree) (bytes : List ℕ) → IsTree whole → is_whole whole (t ∷ ts) ≡ true → value_of whole bytes ≡ value_of (spine (t ∷ ts)) bytes
value-whole whole t ts bytes h e =
    let parts = both (width_of whole == 8 * length (t ∷ ts)) (are_bytes_of whole 0 (t ∷ ts)) e in
    let width = width-value_of whole bytes h ∙ eqb-true _ _ parts.0 in
    let below : (value_of whole bytes).bits < 2 ^ (8 * length (t ∷ ts)) = subst (λ k. (value_of whole bytes).bits < 2 ^ k) width (value_is whole bytes h).fits in
    number_eq _ _ width (sym (ap (λ x. x % 2 ^ (8 * length (t ∷ ts))) (div-one (value_of whole bytes).bits) ∙ mod-eq_of_lt below)) ∙ sym (value-bytes_of whole 0 t ts bytes parts.1)

value-fold_whole : (t : Tree) (ts : List Tree) (bytes : List ℕ) → IsTree t → value_of (fold_whole (inside_byte t) (t ∷ ts)) bytes ≡ value_of (spine (t ∷ ts)) bytes
value-fold_whole (one (Byte j) whole) ts bytes h =
    value-chosen (is_whole whole (one (Byte j) whole ∷ ts)) _ _ bytes _ (value-whole whole (one (Byte j) whole) ts bytes h.0) (λ _. refl)
value-fold_whole t ts bytes h = refl

-- the value of a folded join
pub value-folded_join : (t : Tree) (ts : List Tree) (bytes : List ℕ) → IsTree t → value_of (folded_join (t ∷ ts)) bytes ≡ joined_of (map (λ u. value_of u bytes) (t ∷ ts))
unfolding folded_join
value-folded_join t ts bytes h =
    value-chosen (list_all (λ u. is_some (constant_of u)) (t ∷ ts)) _ _ bytes _ (steady_spine (t ∷ ts) bytes) (λ _. value-fold_whole t ts bytes h) ∙ value-spine t ts bytes

-- ---- a byte fits below what is joined already

pub spine_fits : (bytes : List Tree) (t : Tree) (rest : List Tree) (s : Tree) → bytes ≡ t ∷ rest → AreBytes bytes → length bytes ≤ 8 → (length rest == 0) ≡ false → s ≡ spine rest
    → FitsTwo Join (width_of t) (width_of s)
spine_fits bytes t [] s e h most some is = cc
spine_fits bytes t (u ∷ us) s e h most some is =
    let all : AreBytes (t ∷ u ∷ us) = subst AreBytes e h in
    let few : length (t ∷ u ∷ us) ≤ 8 = subst (λ ts. length ts ≤ 8) e most in
    let width : width_of s ≡ 8 * length (u ∷ us) = ap width_of is ∙ width-spine u us all.1 in
    (all.0, rw width (mul-mod_right 8 (length (u ∷ us))), omega (arith, width, all.0))

pub value-folded_join_of_some : (ts : List Tree) (t : Tree) (bytes : List ℕ) → 0 < length ts → t ≡ get_or ts 0 t → IsTree t
    → value_of (folded_join ts) bytes ≡ joined_of (map (λ u. value_of u bytes) ts)
value-folded_join_of_some [] t bytes some e h = absurd (omega arith)
value-folded_join_of_some (u ∷ us) t bytes some e h = value-folded_join u us bytes (subst IsTree e h)

-- ---- the width of a folded join, and what it reads

constant_width : (t : Tree) → is_some (constant_of t) ≡ true → (value_of t []).width ≡ width_of t
constant_width (constant n) e = refl
constant_width t e = cc

pub width-constants : (t : Tree) (ts : List Tree) → list_all (λ u. is_some (constant_of u)) (t ∷ ts) ≡ true → AreBytes (t ∷ ts) → (value_of (spine (t ∷ ts)) []).width ≡ 8 * length (t ∷ ts)
width-constants t [] e h = omega (arith, constant_width t (both (is_some (constant_of t)) true e).0, h.0)
width-constants t (u ∷ ts) e h =
    let parts = both (is_some (constant_of t)) (list_all (λ v. is_some (constant_of v)) (u ∷ ts)) e in
    omega (arith, constant_width t parts.0, h.0, width-constants u ts parts.1 h.1)

width-fold_whole : (inside : Option Tree) (t : Tree) (ts : List Tree) → AreBytes (t ∷ ts) → width_of (fold_whole inside (t ∷ ts)) ≡ 8 * length (t ∷ ts)
width-fold_whole None t ts h = width-spine t ts h
width-fold_whole (Some whole) t ts h =
    width-chosen (is_whole whole (t ∷ ts)) _ _ _ (λ e. eqb-true _ _ (both (width_of whole == 8 * length (t ∷ ts)) (are_bytes_of whole 0 (t ∷ ts)) e).0) (λ _. width-spine t ts h)

pub width-folded_join : (ts : List Tree) → 0 < length ts → AreBytes ts → width_of (folded_join ts) ≡ 8 * length ts
unfolding folded_join
width-folded_join [] some h = absurd (omega arith)
width-folded_join (t ∷ ts) some h =
    width-chosen (list_all (λ u. is_some (constant_of u)) (t ∷ ts)) _ _ _ (λ e. width-constants t ts e h) (λ _. width-fold_whole (inside_byte t) t ts h)

reads-spine : (count : ℕ) (ts : List Tree) → ReadBelow count ts → ReadsBelow count (spine ts)
reads-spine count [] h = tt
reads-spine count (t ∷ []) h = h.0
reads-spine count (t ∷ u ∷ ts) h = (h.0, reads-spine count (u ∷ ts) h.1)

reads-fold_whole : (count : ℕ) (t : Tree) (ts : List Tree) → ReadBelow count (t ∷ ts) → ReadsBelow count (fold_whole (inside_byte t) (t ∷ ts))
reads-fold_whole count (one (Byte j) whole) ts h = cond_has (ReadsBelow count) (is_whole whole (one (Byte j) whole ∷ ts)) _ _ h.0 (reads-spine count (one (Byte j) whole ∷ ts) h)
reads-fold_whole count t ts h = reads-spine count (t ∷ ts) h

-- it reads no byte that the joined ones don't
pub reads-folded_join : (count : ℕ) (ts : List Tree) → ReadBelow count ts → ReadsBelow count (folded_join ts)
unfolding folded_join
reads-folded_join count [] h = tt
reads-folded_join count (t ∷ ts) h = cond_has (ReadsBelow count) (list_all (λ u. is_some (constant_of u)) (t ∷ ts)) _ _ tt (reads-fold_whole count t ts h)
