-- The bytes of a value under an input.
use Rattle.std.proofs.Common.{◌≡◌, ℕ, zero, suc, ◌+◌, ◌*◌, ◌%◌, ◌<◌, ◌≤◌, List, ◌∷◌, map, refl, ap, arith}
use Rattle.std.proofs.Math.Nat.{mul-mod_right}
use Rattle.terms.specs.declared.term.Unary.TheVariants.{Byte}
use Rattle.terms.specs.Tree.{width_of}
use Rattle.terms.proofs.Folds.{value-folded_one}
use Rattle.flat_ir.specs.declared.values.ConcreteByte.TheVariants as concrete
use Rattle.flat_ir.specs.Registers.{cut, first_of}
use Rattle.sym_bytes.specs.Value as value
use Rattle.sym_bytes.specs.Value.{SymValue}
use Rattle.sym_bytes.specs.Cutting.{byte_of, cut_value}
use Rattle.sym_bytes.specs.Fitting.{IsValue, HasBytes}
use Rattle.sym_bytes.specs.Under.{Results, byte_under, value_under}

-- byte j of a value
byte_law : (input : List ℕ) (results : Results) (v : SymValue) (n j : ℕ) → IsValue v → HasBytes v n → j < n
    → byte_under input results (byte_of v j) ≡ cut (value_under input results v) j
byte_law input results (value.Int t) n j h size less =
    let whole : width_of t % 8 ≡ 0 = rw size (mul-mod_right 8 n) in
    let within : 8 * j + 8 ≤ width_of t = omega (arith, size, less) in
    ap (λ m. concrete.Int m.bits) (value-folded_one (Byte j) t input (h, (whole, within)))
byte_law input results (value.Ptr p) n j h size less = refl
byte_law input results (value.Pending c t) n j h size less = refl

-- elements that are alike one by one
elements : {A : Type 0} {B : Type 0} (f : A → B) (g : ℕ → A) (h : ℕ → B) (m n j : ℕ) → j + n ≡ m → ((k : ℕ) → k < m → f (g k) ≡ h k)
    → map f (first_of n j g) ≡ first_of n j h
elements f g h m zero j e each = refl
elements f g h m (suc n) j e each =
    let first : f (g j) ≡ h j = each j (omega (arith, e)) in
    let rest : map f (first_of n (j + 1) g) ≡ first_of n (j + 1) h = elements f g h m n (j + 1) (omega (arith, e)) each in
    λ i. first i ∷ rest i

pub cut_law : (input : List ℕ) (results : Results) (v : SymValue) (n : ℕ) → IsValue v → HasBytes v n
    → map (byte_under input results) (cut_value v n) ≡ first_of n 0 (cut (value_under input results v))
cut_law input results v n h size = elements (byte_under input results) (byte_of v) (cut (value_under input results v)) n n 0 (omega arith) (λ j less. byte_law input results v n j h size less)
