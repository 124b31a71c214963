-- A typed frame suits the node at which it stands.
use Rattle.std.specs.Prelude.{slice_get}
use Rattle.std.proofs.Common.{◌≡◌, ℕ, zero, suc, ◌*◌, ◌/◌, ◌≤◌, Bool, true, false, ◌||◌, ◌==◌, List, [], ◌∷◌, length, Option, refl, sym, ◌∙◌, ap, subst, ◌⊎◌, inl, inr, arith}
use Rattle.std.proofs.lemmas.Bool.{and_parts, eqb-true}
use Rattle.std.proofs.lemmas.List.Elements.{recursion_from_All}
use Rattle.std.specs.List.{AllByRecursion as Each}
use Rattle.checks.specs.Types.{type_of, type_at, same_type, is_int, is_scalar, has, casts, compares, is_equality, resizes}
use Rattle.checks.specs.Typed.{is_typed}
use Rattle.flat_ir.specs.declared.names.RegId.{RegId}
use Rattle.flat_ir.specs.declared.nodes.CastOp.{CastOp}
use Rattle.flat_ir.specs.declared.nodes.Node.{Node}
use Rattle.flat_ir.specs.declared.nodes.Node.TheVariants as node
use Rattle.flat_ir.specs.declared.nodes.RegType.{RegType}
use Rattle.flat_ir.specs.declared.nodes.RegType.TheVariants as type
use Rattle.flat_ir.specs.declared.program.Func.{Func}
use Rattle.flat_ir.specs.declared.program.ProgramData.{ProgramData}
use Rattle.flat_ir.specs.declared.values.ConcreteValue.{ConcreteValue}
use Rattle.flat_ir.specs.declared.values.ConcreteValue.TheVariants.{Int, Ptr}
use Rattle.flat_ir.specs.Registers.{number, bytes_of_type, bytes_of_value}
use Rattle.flat_ir.specs.Machine.{Frame, func_at, regs_of, node_at, value_in}
use Rattle.flat_ir.specs.Steps.{width_of}
use Rattle.flat_ir.specs.Whole.{IsWhole, IsFuncOf, IsWidth}
use Rattle.flat_ir.proofs.MadeBasics.{each_read}
use Rattle.typed_runs.specs.TypedRuns.{HasType, HoldsTypes}
use Rattle.typed_runs.specs.Suiting.{AreAlike, IsNumbers, Suits, result_of}
use Rattle.typed_runs.specs.Laws.{TypedFramesSuit}
use Rattle.typed_runs.proofs.Checked.{node_typed}
use Rattle.typed_runs.proofs.Types.{all_three, of_same, operand_has, operand_is}

-- a register's type has a width
pub func_widths : (globals funcs : ℕ) (fs : List Func) (k : ℕ) → Each (IsFuncOf globals funcs) fs → Each IsWidth (regs_of (slice_get fs k))
func_widths globals funcs [] k all = tt
func_widths globals funcs (f ∷ fs) zero all = recursion_from_All IsWidth f.regs all.0.widths
func_widths globals funcs (f ∷ fs) (suc k) all = func_widths globals funcs fs k all.1

pub type_width : (p : ProgramData) (f : Frame) (r : RegId) → IsWhole p → IsWidth (type_at (regs_of (func_at p f.func)) r)
type_width p f r whole =
    each_read IsWidth (regs_of (func_at p f.func)) r.0 type.Ptr
    (func_widths (length p.globals) (length p.funcs) p.funcs f.func.0 (recursion_from_All (IsFuncOf (length p.globals) (length p.funcs)) p.funcs whole.funcs)) tt

-- two values of one type
pub same_width : (t : RegType) (v w : ConcreteValue) → HasType t v → HasType t w → (number v).width ≡ (number w).width
same_width (type.Int m) (Int a) (Int b) h k = h ∙ sym k
same_width (type.Int m) (Int a) (Ptr b) h k = absurd k
same_width (type.Int m) (Ptr a) w h k = absurd h
same_width type.Ptr (Int a) w h k = absurd h
same_width type.Ptr (Ptr a) (Int b) h k = absurd k
same_width type.Ptr (Ptr a) (Ptr b) h k = refl

alike : (t : RegType) (v w : ConcreteValue) → HasType t v → HasType t w → AreAlike v w
alike (type.Int m) (Int a) (Int b) h k = h ∙ sym k
alike (type.Int m) (Int a) (Ptr b) h k = absurd k
alike (type.Int m) (Ptr a) w h k = absurd h
alike type.Ptr (Int a) w h k = absurd h
alike type.Ptr (Ptr a) w h k = tt

-- what a cast widens or narrows
cast_suits : (op : CastOp) (from t : RegType) (v : ConcreteValue) → IsWidth t → casts op from t ≡ true → HasType from v → IsNumbers t × (resizes op (number v).width (width_of t) ≡ true)
cast_suits op (type.Int m) (type.Int n) (Int a) width e h = (width, subst (λ (w : ℕ). resizes op w n ≡ true) (sym h) e)
cast_suits op (type.Int m) (type.Int n) (Ptr a) width e h = absurd h
cast_suits op (type.Int m) type.Ptr v width e h = cc
cast_suits op type.Ptr t v width e h = cc

-- a type that memory holds has whole bytes, and one at least
either : (p q : Bool) → p || q ≡ true → (p ≡ true) ⊎ (q ≡ true)
either true q e = inl refl
either false q e = inr e

pub scalar_bytes : (n : ℕ) → is_scalar (type.Int n) ≡ true → (n ≡ 8 * (n / 8)) × (1 ≤ n / 8)
scalar_bytes n e =
    elim (either (n == 8 || n == 16 || n == 32) (n == 64) e) [
      | inl most ↦ elim (either (n == 8 || n == 16) (n == 32) most) [
        | inl few ↦ elim (either (n == 8) (n == 16) few) [
          | inl a ↦ whole 8 (eqb-true n 8 a) (refl, omega arith)
          | inr b ↦ whole 16 (eqb-true n 16 b) (refl, omega arith)
        ]
        | inr c ↦ whole 32 (eqb-true n 32 c) (refl, omega arith)
      ]
      | inr d ↦ whole 64 (eqb-true n 64 d) (refl, omega arith)
    ]
  where
    whole : (m : ℕ) → n ≡ m → (m ≡ 8 * (m / 8)) × (1 ≤ m / 8) → (n ≡ 8 * (n / 8)) × (1 ≤ n / 8)
    whole m is has_bytes = subst (λ (i : ℕ). (i ≡ 8 * (i / 8)) × (1 ≤ i / 8)) (sym is) has_bytes

pub takes_bytes : (t : RegType) → is_scalar t ≡ true → 1 ≤ bytes_of_type t
takes_bytes (type.Int n) e = (scalar_bytes n e).1
takes_bytes type.Ptr e = omega arith

-- a value takes as many bytes as its type
pub bytes_of : (t : RegType) (v : ConcreteValue) → HasType t v → bytes_of_value v ≡ bytes_of_type t
bytes_of (type.Int n) (Int a) h = ap (λ (w : ℕ). w / 8) h
bytes_of (type.Int n) (Ptr a) h = absurd h
bytes_of type.Ptr (Int a) h = absurd h
bytes_of type.Ptr (Ptr a) h = refl

-- what a frame holds suits a node that is typed
pub node_suits : (p : ProgramData) (f : Frame) (returned : Option RegType) (n : Node) → IsWhole p → HoldsTypes p f
    → is_typed p.funcs (regs_of (func_at p f.func)) returned n ≡ true → Suits p f n
node_suits p f returned (node.Bin op a b result next) whole holds e =
    let regs = regs_of (func_at p f.func) in
    let t : RegType = type_at regs result in
    let parts = all_three (is_int t) (has regs a t) (has regs b t) e in
    same_width t (value_in f a) (value_in f b) (operand_is p f a t holds parts.1) (operand_is p f b t holds parts.2)
node_suits p f returned (node.Cmp pr a b result next) whole holds e =
    let regs = regs_of (func_at p f.func) in
    let s : RegType = type_of regs a in
    let t : RegType = type_of regs b in
    let parts = and_parts (same_type (type_at regs result) (type.Int 1)) (compares pr s t) e in
    let same = and_parts (same_type s t) (is_int s || is_equality pr) parts.1 in
    alike s (value_in f a) (value_in f b) (operand_has p f a holds) (of_same s t (value_in f b) same.0 (operand_has p f b holds))
node_suits p f returned (node.Cast op a result next) whole holds e =
    let regs = regs_of (func_at p f.func) in
    cast_suits op (type_of regs a) (type_at regs result) (value_in f a) (type_width p f result whole) e (operand_has p f a holds)
node_suits p f returned (node.Load pointer result next) whole holds e =
    let regs = regs_of (func_at p f.func) in
    let parts = and_parts (has regs pointer type.Ptr) (is_scalar (type_at regs result)) e in
    record { width = type_width p f result whole; some = takes_bytes (type_at regs result) parts.1 }
node_suits p f returned (node.Store value pointer next) whole holds e =
    let regs = regs_of (func_at p f.func) in
    let t : RegType = type_of regs value in
    let parts = and_parts (is_scalar t) (has regs pointer type.Ptr) e in
    subst (λ (n : ℕ). 1 ≤ n) (sym (bytes_of t (value_in f value) (operand_has p f value holds))) (takes_bytes t parts.0)
node_suits p f returned _ whole holds e = tt

pub frame_suits : TypedFramesSuit
frame_suits p f whole checked holds =
    node_suits p f (result_of (func_at p f.func)) (node_at p f.func f.node) whole holds (node_typed p f.func f.node checked)
