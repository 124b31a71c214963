-- Worked examples: programs whose main calls these functions, run by computation.
use Rattle.std.proofs.Common.{◌≡◌, ℕ, List, [], ◌∷◌, ◌++◌, Option, Some, None, refl, length, map}
use Rattle.std.specs.Prelude.{codes}
use Rattle.flat_ir.specs.declared.names.FuncId.{FuncId}
use Rattle.bitnum.specs.declared.BinOp.TheVariants as op
use Rattle.flat_ir.specs.declared.nodes.CastOp.TheVariants as cast
use Rattle.flat_ir.specs.declared.nodes.Node.{Node}
use Rattle.flat_ir.specs.declared.nodes.Node.TheVariants as node
use Rattle.flat_ir.specs.declared.nodes.Operand.{Operand}
use Rattle.flat_ir.specs.declared.nodes.Operand.TheVariants as operand
use Rattle.flat_ir.specs.declared.nodes.RegType.{RegType}
use Rattle.flat_ir.specs.declared.nodes.RegType.TheVariants as type
use Rattle.flat_ir.specs.declared.program.Func.{Func}
use Rattle.flat_ir.specs.declared.program.InitByte.TheVariants as init
use Rattle.flat_ir.specs.declared.program.ProgramData.{ProgramData}
use Rattle.flat_ir.specs.declared.values.FaultKind.TheVariants as fault
use Rattle.flat_ir.specs.History.{output}
use Rattle.flat_ir.specs.Machine.{Run, On, Over, End, Exited, Faulted, state_of}
use Rattle.flat_ir.specs.Run.{run, step}
use Rattle.prelude.specs.Shapes.{r, at, reg, int, func}
use Rattle.prelude.specs.Functions.{getchar, putchar, puts, calloc}
use Rattle.prelude.specs.Copying.{memset, memcpy, memcpy_intrinsic, memset_intrinsic}
use Rattle.prelude.specs.Prelude.{functions, place_of}
use Rattle.prelude.specs.Primitives.{primitive_of}
use Rattle.prelude.specs.declared.primitives.Primitive.TheVariants.{AssertFail}

abbrev fn : ℕ → FuncId
fn k = record { 0 = k }

abbrev global : Operand
global = operand.Global 0 0

-- main, with the one function that it calls, and a global of so many bytes that begins with a text
abbrev calling : Func → ℕ → List ℕ → List RegType → List Node → ProgramData
calling callee size text regs nodes = record {
  globals = record { name = []; size = size; init = map init.Int text } ∷ [];
  funcs = func (codes "main") 0 regs (Some (type.Int 32)) nodes ∷ callee ∷ [];
  main = fn 0;
  defined = 1;
}

abbrev end_of : Run → Option End
end_of (On s) = None
end_of (Over e s) = Some e

abbrev written : Run → List ℕ
written run = output (state_of run).history

-- ---- input and output

abbrev reads_one : ProgramData
reads_one = calling getchar 0 [] (type.Int 32 ∷ []) (node.Call (fn 1) [] (Some (r 0)) (at 1) ∷ node.Ret (Some (reg 0)) ∷ [])

a_byte_is_read : end_of (run reads_one (7 ∷ []) 4) ≡ Some (Exited 7)
unfolding run step
a_byte_is_read = refl

the_end_is_minus_one : end_of (run reads_one [] 4) ≡ Some (Exited 255)
unfolding run step
the_end_is_minus_one = refl

-- a number of two bytes
abbrev writes_one : ProgramData
writes_one = calling putchar 0 [] (type.Int 32 ∷ []) (node.Call (fn 1) (int 32 321 ∷ []) (Some (r 0)) (at 1) ∷ node.Ret (Some (reg 0)) ∷ [])

the_low_byte_is_written : written (run writes_one [] 5) ≡ 65 ∷ []
unfolding run step
the_low_byte_is_written = refl

the_low_byte_is_returned : end_of (run writes_one [] 5) ≡ Some (Exited 65)
unfolding run step
the_low_byte_is_returned = refl

abbrev writes_line : ProgramData
writes_line = calling puts 4 (codes "hi") (type.Int 32 ∷ []) (node.Call (fn 1) (global ∷ []) (Some (r 0)) (at 1) ∷ node.Ret (Some (reg 0)) ∷ [])

-- of two bytes: 1 step for the call, 2 to the loop, 8 a turn, 3 to the end of the loop, 2 behind it, and main's last
a_line_is_written : written (run writes_line [] 25) ≡ codes "hi" ++ 10 ∷ []
unfolding run step
a_line_is_written = refl

a_line_is_written_in_25_steps : end_of (run writes_line [] 25) ≡ Some (Exited 0)
unfolding run step
a_line_is_written_in_25_steps = refl

and_not_in_24 : end_of (run writes_line [] 24) ≡ None
unfolding run step
and_not_in_24 = refl

-- ---- memory

abbrev allocates : ℕ → ℕ → ProgramData
allocates n m = calling calloc 0 [] (type.Ptr ∷ type.Int 32 ∷ [])
    (node.Call (fn 1) (int 64 n ∷ int 64 m ∷ []) (Some (r 0)) (at 1) ∷ node.Load (reg 0) (r 1) (at 2) ∷ node.Ret (Some (reg 1)) ∷ [])

what_is_allocated_is_zero : end_of (run (allocates 2 2) [] 10) ≡ Some (Exited 0)
unfolding run step
what_is_allocated_is_zero = refl

too_much_is_null : end_of (run (allocates 65537 0) [] 10) ≡ Some (Faulted fault.NullAccess (fn 0) (at 1))
unfolding run step
too_much_is_null = refl

-- three bytes are copied behind themselves
abbrev copies : ProgramData
copies = calling memcpy 8 (1 ∷ 2 ∷ 3 ∷ 4 ∷ 5 ∷ 6 ∷ 7 ∷ 8 ∷ []) (type.Ptr ∷ type.Int 32 ∷ [])
    (node.Call (fn 1) (operand.Global 0 4 ∷ global ∷ int 64 3 ∷ []) (Some (r 0)) (at 1) ∷ node.Load (reg 0) (r 1) (at 2)
    ∷ node.Bin op.Sub (reg 1) (int 32 134414849) (r 1) (at 3) ∷ node.Ret (Some (reg 1)) ∷ [])

-- The bytes 1, 2, 3 and 8, less the number 1 + 2 * 256 + 3 * 65536 + 8 * 16777216. 1 step for the call, 2 to the loop, 8 a byte, 2 at its end,
-- 1 behind it, and main's last three.
bytes_are_copied : end_of (run copies [] 33) ≡ Some (Exited 0)
unfolding run step
bytes_are_copied = refl

and_not_in_32 : end_of (run copies [] 32) ≡ None
unfolding run step
and_not_in_32 = refl

abbrev sets : ProgramData
sets = calling memset 8 (1 ∷ 2 ∷ 3 ∷ 4 ∷ []) (type.Ptr ∷ type.Int 32 ∷ [])
    (node.Call (fn 1) (global ∷ int 32 511 ∷ int 64 2 ∷ []) (Some (r 0)) (at 1) ∷ node.Load (reg 0) (r 1) (at 2)
    ∷ node.Bin op.Lshr (reg 1) (int 32 8) (r 1) (at 3) ∷ node.Bin op.Sub (reg 1) (int 32 263167) (r 1) (at 4) ∷ node.Ret (Some (reg 1)) ∷ [])

-- the bytes 255, 255, 3 and 4, less the number 255 + 3 * 256 + 4 * 65536 of the last three
bytes_are_set : end_of (run sets [] 40) ≡ Some (Exited 0)
unfolding run step
bytes_are_set = refl

-- the intrinsics return nothing, and their last argument isn't looked at
abbrev by_intrinsic : Func → Operand → ProgramData
by_intrinsic callee second = calling callee 8 (1 ∷ 2 ∷ 3 ∷ 4 ∷ 9 ∷ []) (type.Int 8 ∷ type.Int 32 ∷ [])
    (node.Call (fn 1) (operand.Global 0 1 ∷ second ∷ int 64 1 ∷ int 1 1 ∷ []) None (at 1)
    ∷ node.Load (operand.Global 0 1) (r 0) (at 2) ∷ node.Cast cast.Zext (reg 0) (r 1) (at 3) ∷ node.Ret (Some (reg 1)) ∷ [])

the_intrinsic_copies : end_of (run (by_intrinsic memcpy_intrinsic (operand.Global 0 4)) [] 30) ≡ Some (Exited 9)
unfolding run step
the_intrinsic_copies = refl

the_intrinsic_sets : end_of (run (by_intrinsic memset_intrinsic (int 8 200)) [] 30) ≡ Some (Exited 200)
unfolding run step
the_intrinsic_sets = refl

-- ---- names

each_is_found : map (λ (f : Func). place_of f.name) functions ≡ Some 0 ∷ Some 1 ∷ Some 2 ∷ Some 3 ∷ Some 4 ∷ Some 5 ∷ Some 6 ∷ Some 7 ∷ []
each_is_found = refl

a_primitive_has_no_place : place_of (codes "malloc") ≡ None
a_primitive_has_no_place = refl

assertions_are_primitive : primitive_of (codes "__assert_fail") ≡ Some AssertFail
assertions_are_primitive = refl

-- a register for each name, and a name for each register
each_has_its_names : map (λ (f : Func). length f.reg_names) functions ≡ map (λ (f : Func). length f.regs) functions
each_has_its_names = refl
