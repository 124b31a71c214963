-- What is stored in a state is what the run stores.
use Rattle.std.proofs.Common.{◌≡◌, ℕ, zero, suc, true, ◌+◌, ◌*◌, ◌/◌, ◌%◌, ◌^◌, List, [], ◌∷◌, ◌++◌, map, Some, refl, sym, ◌∙◌, ap, subst, append_assoc}
use Rattle.std.specs.Prelude.{cond}
use Rattle.std.proofs.lemmas.Bool.{eq-eqb}
use Rattle.terms.specs.Tree.{width_of}
use Rattle.terms.proofs.Numbers.{width-value_of}
use Rattle.checks.specs.Types.{is_scalar}
use Rattle.flat_ir.specs.declared.names.ObjectName.{ObjectName}
use Rattle.flat_ir.specs.declared.nodes.RegType.{RegType}
use Rattle.flat_ir.specs.declared.nodes.RegType.TheVariants as type
use Rattle.flat_ir.specs.declared.values.ConcreteValue.{ConcreteValue}
use Rattle.flat_ir.specs.Effects.{stored_in}
use Rattle.flat_ir.specs.History.{Write, History}
use Rattle.flat_ir.specs.Registers as registers
use Rattle.flat_ir.specs.Registers.{cut, first_of}
use Rattle.sym_bytes.specs.Byte.{SymByte}
use Rattle.sym_bytes.specs.Cutting.{cut_value}
use Rattle.sym_bytes.specs.Fitting.{IsValue, HasBytes}
use Rattle.sym_bytes.specs.Under.{Results, byte_under, value_under}
use Rattle.sym_bytes.specs.Value as value
use Rattle.sym_bytes.specs.Value.{SymValue}
use Rattle.byte_laws.proofs.Cuts.{cut_law}
use Rattle.log_laws.specs.Standing.{writes_under}
use Rattle.leaves.specs.Fitting.{ValueFits}
use Rattle.state_laws.specs.Skipless.{IsFirm}
use Rattle.sym_states.specs.Terms.{bytes_of_value, is_of_bytes, stored_bytes}
use Rattle.typed_runs.specs.TypedRuns.{HasType}
use Rattle.typed_runs.proofs.Suited.{scalar_bytes}

-- bytes that stand for the bytes of a value are written as the run writes it
pub writes-along : (input : List ℕ) (results : Results) (x : ObjectName) (u n j : ℕ) (bs : List SymByte) (v : ConcreteValue) (h : History)
    → map (byte_under input results) bs ≡ first_of n j (cut v)
    → writes_under input results x u j bs ++ h ≡ stored_in n j (record { base = Some x; offset = u }) v h
writes-along input results x u zero j [] v h is = refl
writes-along input results x u zero j (b ∷ bs) v h is = cc
writes-along input results x u (suc n) j [] v h is = cc
writes-along input results x u (suc n) j (b ∷ bs) v h is =
    let first : byte_under input results b ≡ cut v j = cc in
    let rest : map (byte_under input results) bs ≡ first_of n (j + 1) (cut v) = cc in
    append_assoc (writes_under input results x u (j + 1) bs) _ h
    ∙ writes-along input results x u n (j + 1) bs v (Write x ((u + j) % 2 ^ 64) (byte_under input results b) ∷ h) rest
    ∙ ap (λ d. stored_in n (j + 1) (record { base = Some x; offset = u }) v (Write x ((u + j) % 2 ^ 64) d ∷ h)) first

-- a value takes as many bytes as what it stands for
pub size-along : (input : List ℕ) (results : Results) (n : ℕ) (v : SymValue) → IsFirm v → ValueFits n v → registers.bytes_of_value (value_under input results v) ≡ bytes_of_value v
size-along input results n (value.Int t) firm fits = ap (λ w. w / 8) (width-value_of t input fits.tree)
size-along input results n (value.Ptr p) firm fits = refl
size-along input results n (value.Pending c t) firm fits = absurd firm

-- a value of a type that memory holds is of bytes
has-bytes : (input : List ℕ) (results : Results) (n : ℕ) (t : RegType) (v : SymValue) → IsFirm v → ValueFits n v → is_scalar t ≡ true → HasType t (value_under input results v)
    → (is_of_bytes v ≡ true) × HasBytes v (bytes_of_value v) × IsValue v
has-bytes input results n (type.Int width) (value.Int u) firm fits scalar has =
    let whole = subst (λ w. w ≡ 8 * (w / 8)) (sym has ∙ width-value_of u input fits.tree) (scalar_bytes width scalar).0 in
    (eq-eqb (width_of u) (8 * (width_of u / 8)) whole, whole, fits.tree)
has-bytes input results n (type.Int width) (value.Ptr p) firm fits scalar has = absurd has
has-bytes input results n type.Ptr (value.Int u) firm fits scalar has = absurd has
has-bytes input results n type.Ptr (value.Ptr p) firm fits scalar has = (refl, refl, (fits.term.tree, fits.has_width))
has-bytes input results n t (value.Pending c u) firm fits scalar has = absurd firm

-- the bytes that are stored stand for those of the value
pub stored-along : (input : List ℕ) (results : Results) (n : ℕ) (t : RegType) (v : SymValue) → IsFirm v → ValueFits n v → is_scalar t ≡ true → HasType t (value_under input results v)
    → map (byte_under input results) (stored_bytes v) ≡ first_of (bytes_of_value v) 0 (cut (value_under input results v))
stored-along input results n t v firm fits scalar has =
    let of = has-bytes input results n t v firm fits scalar has in
    ap (λ b. map (byte_under input results) (cond b (cut_value v (bytes_of_value v)) [])) of.0
    ∙ cut_law input results v (bytes_of_value v) of.2 of.1
