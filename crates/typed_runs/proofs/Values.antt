-- The values that nodes give have the types of the registers that they set.
use Rattle.std.specs.Prelude.{slice_get, take, ◌==◌, if◌then◌else◌}
use Rattle.std.specs.Option.{option_map}
use Rattle.std.proofs.Common.{◌≡◌, ℕ, true, false, List, [], ◌∷◌, Option, Some, None, refl, subst}
use Rattle.std.proofs.lemmas.Bool.{and_parts}
use Rattle.checks.specs.Types.{sets, gives, have, casts}
use Rattle.checks.specs.Typed.{calls, is_typed}
use Rattle.flat_ir.specs.declared.names.FuncId.{FuncId}
use Rattle.flat_ir.specs.declared.names.RegId.{RegId}
use Rattle.flat_ir.specs.declared.nodes.CastOp.{CastOp}
use Rattle.flat_ir.specs.declared.nodes.CastOp.TheVariants.{Trunc, Zext, Sext}
use Rattle.flat_ir.specs.declared.nodes.Node.{Node}
use Rattle.flat_ir.specs.declared.nodes.Node.TheVariants as node
use Rattle.flat_ir.specs.declared.nodes.Operand.{Operand}
use Rattle.flat_ir.specs.declared.nodes.RegType.{RegType}
use Rattle.flat_ir.specs.declared.nodes.RegType.TheVariants as type
use Rattle.flat_ir.specs.declared.program.Func.{Func}
use Rattle.flat_ir.specs.declared.program.ProgramData.{ProgramData}
use Rattle.flat_ir.specs.declared.values.ConcreteByte.{ConcreteByte}
use Rattle.flat_ir.specs.declared.values.ConcreteByte.TheVariants as byte
use Rattle.flat_ir.specs.declared.values.ConcreteValue.{ConcreteValue}
use Rattle.flat_ir.specs.declared.values.ConcreteValue.TheVariants.{Int, Ptr}
use Rattle.flat_ir.specs.Registers.{null, joined, joined_number, joined_pointer, null_if_zero, number_of_width, are_bytes_of}
use Rattle.flat_ir.specs.Machine.{Frame, func_at, regs_of, value_in}
use Rattle.flat_ir.specs.Steps.{cast_to, width_of, call_result}
use Rattle.bitnum.specs.Number.{Number}
use Rattle.typed_runs.specs.TypedRuns.{HasType, HoldsTypes, IsCallOf}
use Rattle.typed_runs.specs.Shown.{IsGiven}
use Rattle.typed_runs.specs.Suiting.{result_of}
use Rattle.typed_runs.proofs.Types.{operand_is}

-- a value, if there is one, of a type
abbrev pub OptionHas : RegType → Option ConcreteValue → Type 0
OptionHas t None = Unit {0}
OptionHas t (Some v) = HasType t v

-- a cast gives a number of the width that it is to have
pub cast_has : (op : CastOp) (from t : RegType) (n : Number) → casts op from t ≡ true → HasType t (Int (cast_to op (width_of t) n))
cast_has Trunc (type.Int m) (type.Int w) n e = refl
cast_has Zext (type.Int m) (type.Int w) n e = refl
cast_has Sext (type.Int m) (type.Int w) n e = refl
cast_has op (type.Int m) type.Ptr n e = cc
cast_has op type.Ptr t n e = cc

-- bytes are joined to a value of the type
width_has : (w : ℕ) (o : Option ℕ) → OptionHas (type.Int w) (number_of_width w o)
width_has w None = tt
width_has w (Some n) = refl

null_has : (o : Option ℕ) → OptionHas type.Ptr (null_if_zero o)
null_has None = tt
null_has (Some n) = elim (n == 0) as (λ t. OptionHas type.Ptr (if t then Some (Ptr null) else None)) [ true ↦ tt | false ↦ tt ]

pointer_has : (bs : List ConcreteByte) → OptionHas type.Ptr (joined_pointer bs)
pointer_has [] = tt
pointer_has (byte.Int b ∷ bs) = null_has (joined_number (byte.Int b ∷ bs))
pointer_has (byte.PtrByte a j ∷ bs) =
    elim (are_bytes_of a 0 (byte.PtrByte a j ∷ bs)) as (λ t. OptionHas type.Ptr (if t then Some (Ptr a) else None)) [ true ↦ tt | false ↦ tt ]

pub joined_has : (t : RegType) (bs : List ConcreteByte) → OptionHas t (joined t bs)
joined_has (type.Int w) bs = width_has w (joined_number bs)
joined_has type.Ptr bs = pointer_has bs

-- what a return gives is of the function's result type
pub given : (p : ProgramData) (f : Frame) (a : Option Operand) (o : Option RegType) → HoldsTypes p f → gives (regs_of (func_at p f.func)) a o ≡ true → IsGiven o (option_map (value_in f) a)
given p f None None holds e = tt
given p f None (Some t) holds e = cc
given p f (Some a) None holds e = cc
given p f (Some a) (Some t) holds e = operand_is p f a t holds e

-- a call's register is of that type
calls_set : (regs : List RegType) (callee : Option Func) (args : List Operand) (result : Option RegId) → calls regs callee args result ≡ true → sets regs result (result_of callee) ≡ true
calls_set regs None args result e = cc
calls_set regs (Some f) args result e = (and_parts (have regs args (take f.params f.regs)) (sets regs result f.result) e).1

pub call_sets : (funcs : List Func) (regs : List RegType) (returned : Option RegType) (call : Node) (f : FuncId) → IsCallOf f call
    → is_typed funcs regs returned call ≡ true → sets regs (call_result call) (result_of (slice_get funcs f.0)) ≡ true
call_sets funcs regs returned (node.Call callee args result next) f is e =
    subst (λ (c : FuncId). sets regs result (result_of (slice_get funcs c.0)) ≡ true) is (calls_set regs (slice_get funcs callee.0) args result e)
call_sets funcs regs returned _ f is e = absurd is
