-- Worked examples of the nodes that use memory: Alloca, Malloc, Free, Load, Store, Copy, Gep, and Cmp and Select of pointers.
use Rattle.std.proofs.Common.{◌≡◌, ℕ, ◌-◌, ◌^◌, [], ◌∷◌, Some, refl}
use Rattle.flat_ir.specs.declared.nodes.Node.TheVariants as node
use Rattle.flat_ir.specs.declared.nodes.Operand.TheVariants as operand
use Rattle.flat_ir.specs.declared.nodes.RegType.TheVariants as type
use Rattle.flat_ir.specs.declared.program.ProgramData.{ProgramData}
use Rattle.flat_ir.specs.declared.values.FaultKind.TheVariants as fault
use Rattle.flat_ir.specs.Machine.{Exited, Faulted}
use Rattle.flat_ir.specs.Run.{run, step}
use Rattle.flat_ir.proofs.SmallPrograms.{r, at, fn, reg, int, i32, minus, program, only_main, global, end_of}
use Rattle.bitnum.specs.declared.Pred.TheVariants as pred
use Rattle.flat_ir.specs.declared.nodes.CastOp.TheVariants as cast
use Rattle.flat_ir.specs.declared.nodes.GepPart.TheVariants.{Field, Index}
use Rattle.flat_ir.specs.declared.program.InitByte.TheVariants as init
use Rattle.flat_ir.specs.declared.program.GlobalVar.{GlobalVar}

-- a cell of 32 bits that is written and read: the low byte of 1000 is 232
a_cell_keeps_its_value : end_of (run (only_main (type.Ptr ∷ type.Int 32 ∷ [])
    (node.Alloca 4 (r 0) (at 1) ∷ node.Store (i32 1000) (reg 0) (at 2) ∷ node.Load (reg 0) (r 1) (at 3) ∷ node.Ret (Some (reg 1)) ∷ [])) [] 4)
    ≡ Some (Exited 232)
unfolding run step
a_cell_keeps_its_value = refl

-- a fresh byte is 0, also behind a written one: the least byte stands first
the_lowest_byte_stands_first : end_of (run (only_main (type.Ptr ∷ type.Ptr ∷ type.Int 8 ∷ type.Int 32 ∷ [])
    (node.Alloca 4 (r 0) (at 1) ∷ node.Store (i32 1000) (reg 0) (at 2) ∷ node.Gep (reg 0) (Field 1 ∷ []) (r 1) (at 3)
    ∷ node.Load (reg 1) (r 2) (at 4) ∷ node.Cast cast.Zext (reg 2) (r 3) (at 5) ∷ node.Ret (Some (reg 3)) ∷ [])) [] 6)
    ≡ Some (Exited 3)
unfolding run step
the_lowest_byte_stands_first = refl

-- a field at 2, then an index of -1 in 32 bits: place 1 of "wxyz"
abbrev wxyz : GlobalVar
wxyz = global 4 (init.Int 119 ∷ init.Int 120 ∷ init.Int 121 ∷ init.Int 122 ∷ [])

an_index_is_signed : end_of (run (program (wxyz ∷ []) (type.Ptr ∷ type.Int 8 ∷ type.Int 32 ∷ [])
    (node.Gep (operand.Global 0 0) (Field 2 ∷ Index 1 (minus 32 1) ∷ []) (r 0) (at 1)
    ∷ node.Load (reg 0) (r 1) (at 2) ∷ node.Cast cast.Zext (reg 1) (r 2) (at 3) ∷ node.Ret (Some (reg 2)) ∷ []) []) [] 4)
    ≡ Some (Exited 120)
unfolding run step
an_index_is_signed = refl

-- an access through null, past the end, and across it
access_of_null : end_of (run (only_main (type.Int 32 ∷ []) (node.Load operand.Null (r 0) (at 1) ∷ node.Ret (Some (reg 0)) ∷ [])) [] 1)
    ≡ Some (Faulted fault.NullAccess (fn 0) (at 0))
unfolding run step
access_of_null = refl

access_past_the_end : end_of (run (program (wxyz ∷ []) (type.Int 8 ∷ []) (node.Load (operand.Global 0 4) (r 0) (at 1) ∷ node.Ret (Some (i32 0)) ∷ []) []) [] 1)
    ≡ Some (Faulted fault.OutOfBounds (fn 0) (at 0))
unfolding run step
access_past_the_end = refl

access_across_the_end : end_of (run (program (wxyz ∷ []) [] (node.Store (int 16 0) (operand.Global 0 3) (at 1) ∷ node.Ret (Some (i32 0)) ∷ []) []) [] 1)
    ≡ Some (Faulted fault.OutOfBounds (fn 0) (at 0))
unfolding run step
access_across_the_end = refl

access_before_the_start : end_of (run (program (wxyz ∷ []) (type.Int 8 ∷ []) (node.Load (operand.Global 0 (2 ^ 64 - 1)) (r 0) (at 1) ∷ node.Ret (Some (i32 0)) ∷ []) []) [] 1)
    ≡ Some (Faulted fault.OutOfBounds (fn 0) (at 0))
unfolding run step
access_before_the_start = refl

-- an object of malloc lives until it is freed, and is freed once
access_after_free : end_of (run (only_main (type.Ptr ∷ type.Int 32 ∷ [])
    (node.Malloc (int 64 4) (Some (r 0)) (at 1) ∷ node.Free (reg 0) (at 2) ∷ node.Load (reg 0) (r 1) (at 3) ∷ node.Ret (Some (reg 1)) ∷ [])) [] 3)
    ≡ Some (Faulted fault.UseAfterFree (fn 0) (at 2))
unfolding run step
access_after_free = refl

a_second_free : end_of (run (only_main (type.Ptr ∷ [])
    (node.Malloc (int 64 4) (Some (r 0)) (at 1) ∷ node.Free (reg 0) (at 2) ∷ node.Free (reg 0) (at 3) ∷ node.Ret (Some (i32 0)) ∷ [])) [] 3)
    ≡ Some (Faulted fault.UseAfterFree (fn 0) (at 2))
unfolding run step
a_second_free = refl

a_free_of_an_alloca : end_of (run (only_main (type.Ptr ∷ [])
    (node.Alloca 4 (r 0) (at 1) ∷ node.Free (reg 0) (at 2) ∷ node.Ret (Some (i32 0)) ∷ [])) [] 2)
    ≡ Some (Faulted fault.BadFree (fn 0) (at 1))
unfolding run step
a_free_of_an_alloca = refl

a_free_inside : end_of (run (only_main (type.Ptr ∷ type.Ptr ∷ [])
    (node.Malloc (int 64 4) (Some (r 0)) (at 1) ∷ node.Gep (reg 0) (Field 1 ∷ []) (r 1) (at 2) ∷ node.Free (reg 1) (at 3) ∷ node.Ret (Some (i32 0)) ∷ [])) [] 3)
    ≡ Some (Faulted fault.BadFree (fn 0) (at 2))
unfolding run step
a_free_inside = refl

a_free_of_null : end_of (run (only_main [] (node.Free operand.Null (at 1) ∷ node.Ret (Some (i32 7)) ∷ [])) [] 2) ≡ Some (Exited 7)
unfolding run step
a_free_of_null = refl

a_free_beside_null : end_of (run (only_main (type.Ptr ∷ []) (node.Gep operand.Null (Field 1 ∷ []) (r 0) (at 1) ∷ node.Free (reg 0) (at 2) ∷ node.Ret (Some (i32 7)) ∷ [])) [] 2)
    ≡ Some (Faulted fault.BadFree (fn 0) (at 1))
unfolding run step
a_free_beside_null = refl

-- malloc of 65537 bytes gives null, and of 65536 doesn't
abbrev is_null_after : ℕ → ProgramData
is_null_after size = only_main (type.Ptr ∷ type.Int 1 ∷ type.Int 32 ∷ [])
    (node.Malloc (int 64 size) (Some (r 0)) (at 1) ∷ node.Cmp pred.Eq (reg 0) operand.Null (r 1) (at 2)
    ∷ node.Cast cast.Zext (reg 1) (r 2) (at 3) ∷ node.Ret (Some (reg 2)) ∷ [])

malloc_of_too_much : end_of (run (is_null_after 65537) [] 4) ≡ Some (Exited 1)
unfolding run step
malloc_of_too_much = refl

malloc_of_the_most : end_of (run (is_null_after 65536) [] 4) ≡ Some (Exited 0)
unfolding run step
malloc_of_the_most = refl

-- two objects are unequal, and a pointer that was stored comes back
pointers_are_compared : end_of (run (only_main (type.Ptr ∷ type.Ptr ∷ type.Ptr ∷ type.Int 1 ∷ type.Int 32 ∷ [])
    (node.Alloca 8 (r 0) (at 1) ∷ node.Alloca 1 (r 1) (at 2) ∷ node.Store (reg 1) (reg 0) (at 3) ∷ node.Load (reg 0) (r 2) (at 4)
    ∷ node.Cmp pred.Eq (reg 2) (reg 1) (r 3) (at 5) ∷ node.Cast cast.Zext (reg 3) (r 4) (at 6) ∷ node.Ret (Some (reg 4)) ∷ [])) [] 7)
    ≡ Some (Exited 1)
unfolding run step
pointers_are_compared = refl

objects_are_unequal : end_of (run (only_main (type.Ptr ∷ type.Ptr ∷ type.Int 1 ∷ type.Int 32 ∷ [])
    (node.Alloca 8 (r 0) (at 1) ∷ node.Alloca 1 (r 1) (at 2)
    ∷ node.Cmp pred.Ne (reg 0) (reg 1) (r 2) (at 3) ∷ node.Cast cast.Zext (reg 2) (r 3) (at 4) ∷ node.Ret (Some (reg 3)) ∷ [])) [] 5)
    ≡ Some (Exited 1)
unfolding run step
objects_are_unequal = refl

-- select i1 true, ptr @g, ptr null
select_of_pointers : end_of (run (program (wxyz ∷ []) (type.Ptr ∷ type.Int 8 ∷ type.Int 32 ∷ [])
    (node.Select (int 1 1) (operand.Global 0 0) operand.Null (r 0) (at 1) ∷ node.Load (reg 0) (r 1) (at 2)
    ∷ node.Cast cast.Zext (reg 1) (r 2) (at 3) ∷ node.Ret (Some (reg 2)) ∷ []) []) [] 4)
    ≡ Some (Exited 119)
unfolding run step
select_of_pointers = refl

-- bytes of a pointer are no number, and the eight zero bytes of a fresh object are null
pointer_bytes_are_no_number : end_of (run (only_main (type.Ptr ∷ type.Int 32 ∷ [])
    (node.Alloca 8 (r 0) (at 1) ∷ node.Store (reg 0) (reg 0) (at 2) ∷ node.Load (reg 0) (r 1) (at 3) ∷ node.Ret (Some (reg 1)) ∷ [])) [] 3)
    ≡ Some (Faulted fault.MixedBytes (fn 0) (at 2))
unfolding run step
pointer_bytes_are_no_number = refl

zero_bytes_are_null : end_of (run (only_main (type.Ptr ∷ type.Ptr ∷ type.Int 1 ∷ type.Int 32 ∷ [])
    (node.Alloca 8 (r 0) (at 1) ∷ node.Load (reg 0) (r 1) (at 2) ∷ node.Cmp pred.Eq (reg 1) operand.Null (r 2) (at 3)
    ∷ node.Cast cast.Zext (reg 2) (r 3) (at 4) ∷ node.Ret (Some (reg 3)) ∷ [])) [] 5)
    ≡ Some (Exited 1)
unfolding run step
zero_bytes_are_null = refl

-- a byte is copied as it is, here byte 0 of a pointer, which alone makes no pointer
a_copied_byte : end_of (run (program (wxyz ∷ []) (type.Ptr ∷ type.Int 8 ∷ type.Int 32 ∷ [])
    (node.Alloca 1 (r 0) (at 1) ∷ node.Copy (operand.Global 0 3) (reg 0) (at 2) ∷ node.Load (reg 0) (r 1) (at 3)
    ∷ node.Cast cast.Zext (reg 1) (r 2) (at 4) ∷ node.Ret (Some (reg 2)) ∷ []) []) [] 5)
    ≡ Some (Exited 122)
unfolding run step
a_copied_byte = refl

a_copied_pointer_byte : end_of (run (only_main (type.Ptr ∷ type.Ptr ∷ type.Ptr ∷ [])
    (node.Alloca 8 (r 0) (at 1) ∷ node.Alloca 8 (r 1) (at 2) ∷ node.Store (reg 0) (reg 0) (at 3) ∷ node.Copy (reg 0) (reg 1) (at 4)
    ∷ node.Load (reg 1) (r 2) (at 5) ∷ node.Ret (Some (i32 0)) ∷ [])) [] 5)
    ≡ Some (Faulted fault.MixedBytes (fn 0) (at 4))
unfolding run step
a_copied_pointer_byte = refl

-- the source is tested before the target
a_copy_from_null : end_of (run (program (wxyz ∷ []) [] (node.Copy operand.Null (operand.Global 0 4) (at 1) ∷ node.Ret (Some (i32 0)) ∷ []) []) [] 1)
    ≡ Some (Faulted fault.NullAccess (fn 0) (at 0))
unfolding run step
a_copy_from_null = refl

-- @p = global ptr (@g plus 2), whose bytes make the pointer again
an_initial_pointer : end_of (run (program (wxyz ∷ global 8 (init.PtrByte 0 2 0 ∷ init.PtrByte 0 2 1 ∷ init.PtrByte 0 2 2 ∷ init.PtrByte 0 2 3
    ∷ init.PtrByte 0 2 4 ∷ init.PtrByte 0 2 5 ∷ init.PtrByte 0 2 6 ∷ init.PtrByte 0 2 7 ∷ []) ∷ []) (type.Ptr ∷ type.Int 8 ∷ type.Int 32 ∷ [])
    (node.Load (operand.Global 1 0) (r 0) (at 1) ∷ node.Load (reg 0) (r 1) (at 2) ∷ node.Cast cast.Zext (reg 1) (r 2) (at 3) ∷ node.Ret (Some (reg 2)) ∷ []) []) [] 4)
    ≡ Some (Exited 121)
unfolding run step
an_initial_pointer = refl
