-- Facts on types of values and of lists of values.
use Rattle.std.specs.Prelude.{slice_get, slice_set, unwrap_or, map, drop, take}
use Rattle.std.proofs.Common.{◌≡◌, ℕ, zero, suc, Bool, true, false, ◌&&◌, List, [], ◌∷◌, ◌++◌, length, refl, sym, ◌∙◌, ap, subst}
use Rattle.std.proofs.lemmas.Bool.{and_parts, eqb-true}
use Rattle.bitnum.specs.Number.{Number}
use Rattle.checks.specs.Types.{type_of, same_type, is_int, has, have}
use Rattle.flat_ir.specs.declared.nodes.Operand.{Operand}
use Rattle.flat_ir.specs.declared.nodes.Operand.TheVariants as operand
use Rattle.flat_ir.specs.declared.nodes.RegType.{RegType}
use Rattle.flat_ir.specs.declared.nodes.RegType.TheVariants as type
use Rattle.flat_ir.specs.declared.program.ProgramData.{ProgramData}
use Rattle.flat_ir.specs.declared.values.ConcreteValue.{ConcreteValue}
use Rattle.flat_ir.specs.declared.values.ConcreteValue.TheVariants.{Int, Ptr}
use Rattle.flat_ir.specs.Registers.{null, number, zero_of}
use Rattle.flat_ir.specs.Machine.{Frame, func_at, regs_of, value_in}
use Rattle.typed_runs.specs.TypedRuns.{HasType, HaveTypes, HoldsTypes}

pub all_three : (p q r : Bool) → p && q && r ≡ true → (p ≡ true) × (q ≡ true) × (r ≡ true)
all_three true q r e = let rest = and_parts q r e in (refl, rest.0, rest.1)
all_three false q r e = cc

pub same_is : (a b : RegType) → same_type a b ≡ true → a ≡ b
same_is (type.Int m) (type.Int n) e = ap type.Int (eqb-true m n e)
same_is (type.Int m) type.Ptr e = cc
same_is type.Ptr (type.Int n) e = cc
same_is type.Ptr type.Ptr e = refl

-- a value of the other type
pub of_same : (a b : RegType) (v : ConcreteValue) → same_type a b ≡ true → HasType b v → HasType a v
of_same a b v e h = subst (λ t. HasType t v) (sym (same_is a b e)) h

pub to_same : (a b : RegType) (v : ConcreteValue) → same_type a b ≡ true → HasType a v → HasType b v
to_same a b v e h = subst (λ t. HasType t v) (same_is a b e) h

-- what stands at a place has the type that stands there
pub has_at : (ts : List RegType) (vs : List ConcreteValue) (k : ℕ) → HaveTypes ts vs → HasType (unwrap_or (slice_get ts k) type.Ptr) (unwrap_or (slice_get vs k) (Ptr null))
has_at [] [] k all = tt
has_at [] (v ∷ vs) k all = absurd all
has_at (t ∷ ts) [] k all = absurd all
has_at (t ∷ ts) (v ∷ vs) zero all = all.0
has_at (t ∷ ts) (v ∷ vs) (suc k) all = has_at ts vs k all.1

pub have_set : (ts : List RegType) (vs : List ConcreteValue) (k : ℕ) (v : ConcreteValue) → HaveTypes ts vs → HasType (unwrap_or (slice_get ts k) type.Ptr) v → HaveTypes ts (slice_set vs k v)
have_set [] [] k v all it = tt
have_set [] (w ∷ vs) k v all it = absurd all
have_set (t ∷ ts) [] k v all it = absurd all
have_set (t ∷ ts) (w ∷ vs) zero v all it = (it, all.1)
have_set (t ∷ ts) (w ∷ vs) (suc k) v all it = (all.0, have_set ts vs k v all.1 it)

pub zeros_have : (ts : List RegType) → HaveTypes ts (map zero_of ts)
zeros_have [] = tt
zeros_have (type.Int w ∷ ts) = (refl, zeros_have ts)
zeros_have (type.Ptr ∷ ts) = (tt, zeros_have ts)

-- an operand has a value of its type
pub operand_has : (p : ProgramData) (f : Frame) (a : Operand) → HoldsTypes p f → HasType (type_of (regs_of (func_at p f.func)) a) (value_in f a)
operand_has p f (operand.Reg r) all = has_at (regs_of (func_at p f.func)) f.regs r.0 all
operand_has p f (operand.Int n) all = refl
operand_has p f operand.Null all = tt
operand_has p f (operand.Global g offset) all = tt

pub operand_is : (p : ProgramData) (f : Frame) (a : Operand) (t : RegType) → HoldsTypes p f → has (regs_of (func_at p f.func)) a t ≡ true → HasType t (value_in f a)
operand_is p f a t all e = to_same (type_of (regs_of (func_at p f.func)) a) t (value_in f a) e (operand_has p f a all)

-- a number as wide as one of a type is of that type
pub as_wide : (t : RegType) (v : ConcreteValue) (n : Number) → is_int t ≡ true → HasType t v → n.width ≡ (number v).width → HasType t (Int n)
as_wide (type.Int w) (Int m) n i h e = e ∙ h
as_wide (type.Int w) (Ptr a) n i h e = absurd h
as_wide type.Ptr v n i h e = cc

-- the registers that a call sets up: its arguments, and zeros behind them
pub args_have : (p : ProgramData) (f : Frame) (args : List Operand) (params : ℕ) (ts : List RegType) → HoldsTypes p f
    → have (regs_of (func_at p f.func)) args (take params ts) ≡ true
    → HaveTypes ts (map (value_in f) args ++ map zero_of (drop (length (map (value_in f) args)) ts))
args_have p f [] params ts holds e = zeros_have ts
args_have p f (a ∷ args) zero [] holds e = cc
args_have p f (a ∷ args) zero (t ∷ ts) holds e = cc
args_have p f (a ∷ args) (suc params) [] holds e = cc
args_have p f (a ∷ args) (suc params) (t ∷ ts) holds e =
    let parts = and_parts (has (regs_of (func_at p f.func)) a t) (have (regs_of (func_at p f.func)) args (take params ts)) e in
    (operand_is p f a t holds parts.0, args_have p f args params ts holds parts.1)
