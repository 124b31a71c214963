-- Worked examples of the nodes that read, write, lead on, call and end: In, Put, Jump, Branch, Switch, Call, Ret, Exit, Abort,
-- Assert, Unreachable.
use Rattle.std.proofs.Common.{◌≡◌, ℕ, [], ◌∷◌, Some, None, refl}
use Rattle.flat_ir.specs.declared.nodes.Node.TheVariants as node
use Rattle.flat_ir.specs.declared.nodes.Operand.TheVariants as operand
use Rattle.flat_ir.specs.declared.nodes.RegType.TheVariants as type
use Rattle.flat_ir.specs.declared.program.ProgramData.{ProgramData}
use Rattle.flat_ir.specs.declared.values.FaultKind.TheVariants as fault
use Rattle.flat_ir.specs.Machine.{Exited, Faulted}
use Rattle.flat_ir.specs.Run.{run, step}
use Rattle.flat_ir.proofs.SmallPrograms.{r, at, fn, reg, int, i32, func, program, only_main, end_of, written}
use Rattle.bitnum.specs.declared.BinOp.TheVariants as op
use Rattle.flat_ir.specs.declared.program.Func.{Func}
use Rattle.flat_ir.specs.declared.values.ConcreteValue.TheVariants.{Int}
use Rattle.flat_ir.specs.Machine.{Branched, Entered, Returned}
use Rattle.flat_ir.specs.Run.{trace}
use Rattle.flat_ir.specs.Skipped.{outside, results, depth_after}

-- the byte that stands next is read, and then -1
abbrev second_byte : ProgramData
second_byte = only_main (type.Int 32 ∷ type.Int 32 ∷ [])
    (node.In (r 0) (at 1) ∷ node.In (r 1) (at 2) ∷ node.Ret (Some (reg 1)) ∷ [])

bytes_are_read_in_order : end_of (run second_byte (7 ∷ 200 ∷ []) 3) ≡ Some (Exited 200)
unfolding run step
bytes_are_read_in_order = refl

the_input_ends : end_of (run second_byte (7 ∷ []) 3) ≡ Some (Exited 255)
unfolding run step
the_input_ends = refl

-- low bytes are written in order
bytes_are_written_in_order : written (run (only_main [] (node.Put (i32 65) (at 1) ∷ node.Put (i32 300) (at 2) ∷ node.Ret (Some (i32 0)) ∷ [])) [] 3)
    ≡ 65 ∷ 44 ∷ []
unfolding run step
bytes_are_written_in_order = refl

a_jump_leads_on : end_of (run (only_main [] (node.Jump (at 2) ∷ node.Unreachable ∷ node.Ret (Some (i32 3)) ∷ [])) [] 2) ≡ Some (Exited 3)
unfolding run step
a_jump_leads_on = refl

-- a loop goes on
a_loop_goes_on : end_of (run (only_main [] (node.Jump (at 0) ∷ [])) [] 50) ≡ None
unfolding run step
a_loop_goes_on = refl

-- a branch shows its side, from 0
abbrev by_condition : ℕ → ProgramData
by_condition c = only_main [] (node.Branch (int 1 c) (at 1) (at 2) ∷ node.Ret (Some (i32 10)) ∷ node.Ret (Some (i32 20)) ∷ [])

a_branch_where_it_holds : end_of (run (by_condition 1) [] 2) ≡ Some (Exited 10)
unfolding run step
a_branch_where_it_holds = refl

a_branch_where_it_fails : end_of (run (by_condition 0) [] 2) ≡ Some (Exited 20)
unfolding run step
a_branch_where_it_fails = refl

the_side_is_shown : trace (by_condition 0) [] 2 ≡ Branched (fn 0) (at 0) 1 ∷ []
unfolding run step
the_side_is_shown = refl

-- a switch shows the number of its case; the default stands last
abbrev by_value : ℕ → ProgramData
by_value v = only_main []
    (node.Switch (int 8 v) (record { number = record { width = 8; bits = 5 }; to = at 1 } ∷ record { number = record { width = 8; bits = 6 }; to = at 2 } ∷ []) (at 3)
    ∷ node.Ret (Some (i32 50)) ∷ node.Ret (Some (i32 60)) ∷ node.Ret (Some (i32 70)) ∷ [])

a_switch_takes_its_case : end_of (run (by_value 6) [] 2) ≡ Some (Exited 60)
unfolding run step
a_switch_takes_its_case = refl

a_switch_takes_its_default : end_of (run (by_value 7) [] 2) ≡ Some (Exited 70)
unfolding run step
a_switch_takes_its_default = refl

the_default_is_the_last_side : trace (by_value 7) [] 2 ≡ Branched (fn 0) (at 0) 2 ∷ []
unfolding run step
the_default_is_the_last_side = refl

-- f(x) is x + 1, which takes two steps
abbrev successor : Func
successor = func 1 (Some (type.Int 32)) (type.Int 32 ∷ type.Int 32 ∷ []) (node.Bin op.Add (reg 0) (i32 1) (r 1) (at 1) ∷ node.Ret (Some (reg 1)) ∷ [])

abbrev calls_successor : ProgramData
calls_successor = program [] (type.Int 32 ∷ []) (node.Call (fn 1) (i32 41 ∷ []) (Some (r 0)) (at 1) ∷ node.Ret (Some (reg 0)) ∷ []) (successor ∷ [])

a_call_returns_its_result : end_of (run calls_successor [] 4) ≡ Some (Exited 42)
unfolding run step
a_call_returns_its_result = refl

a_call_and_its_return_are_shown : trace calls_successor [] 4 ≡ Entered (fn 0) (at 0) (fn 1) ∷ Returned (Some (Int (record { width = 32; bits = 42 }))) ∷ []
unfolding run step
a_call_and_its_return_are_shown = refl

-- what the alloca of a frame made is freed when the frame ends
a_frame_frees_its_objects : end_of (run (program [] (type.Ptr ∷ type.Int 32 ∷ [])
    (node.Call (fn 1) [] (Some (r 0)) (at 1) ∷ node.Load (reg 0) (r 1) (at 2) ∷ node.Ret (Some (reg 1)) ∷ [])
    (func 0 (Some type.Ptr) (type.Ptr ∷ []) (node.Alloca 4 (r 0) (at 1) ∷ node.Ret (Some (reg 0)) ∷ []) ∷ [])) [] 4)
    ≡ Some (Faulted fault.UseAfterFree (fn 0) (at 1))
unfolding run step
a_frame_frees_its_objects = refl

-- an exit ends the run inside a call, with the low byte of its status
an_exit_ends_inside_a_call : end_of (run (program [] [] (node.Call (fn 1) [] None (at 1) ∷ node.Ret (Some (i32 1)) ∷ [])
    (func 0 None [] (node.Exit (i32 300) ∷ []) ∷ [])) [] 2)
    ≡ Some (Exited 44)
unfolding run step
an_exit_ends_inside_a_call = refl

an_abort : end_of (run (only_main [] (node.Abort ∷ [])) [] 1) ≡ Some (Faulted fault.Abort (fn 0) (at 0))
unfolding run step
an_abort = refl

a_failed_assertion : end_of (run (only_main [] (node.Assert (operand.Null ∷ []) ∷ [])) [] 1) ≡ Some (Faulted fault.Assert (fn 0) (at 0))
unfolding run step
a_failed_assertion = refl

unreachable_code : end_of (run (only_main [] (node.Unreachable ∷ [])) [] 1) ≡ Some (Faulted fault.Unreachable (fn 0) (at 0))
unfolding run step
unreachable_code = refl

-- main's node 1 calls f, which branches and calls h, which branches, and returns 9; then main branches
abbrev nested : ProgramData
nested = program [] (type.Int 32 ∷ [])
    (node.Branch (int 1 1) (at 1) (at 1) ∷ node.Call (fn 1) [] (Some (r 0)) (at 2) ∷ node.Call (fn 2) [] None (at 3)
    ∷ node.Branch (int 1 0) (at 4) (at 4) ∷ node.Ret (Some (reg 0)) ∷ [])
    (func 0 (Some (type.Int 32)) [] (node.Branch (int 1 1) (at 1) (at 1) ∷ node.Call (fn 2) [] None (at 2) ∷ node.Ret (Some (i32 9)) ∷ [])
    ∷ func 0 None [] (node.Branch (int 1 0) (at 1) (at 1) ∷ node.Ret None ∷ []) ∷ [])

-- the branches of f, and of the h that it calls, stand in the skipped call; those of the other h don't
what_stands_in_no_skipped_call : outside (fn 1 ∷ []) (trace nested [] 11) ≡ Branched (fn 0) (at 0) 0 ∷ Branched (fn 2) (at 0) 1 ∷ Branched (fn 0) (at 3) 1 ∷ []
unfolding run step
what_stands_in_no_skipped_call = refl

what_the_skipped_calls_returned : results (fn 1 ∷ []) (trace nested [] 11) ≡ Some (Int (record { width = 32; bits = 9 })) ∷ []
unfolding run step
what_the_skipped_calls_returned = refl

-- with h named too its call inside f is part of f's
a_skipped_call_holds_those_inside : results (fn 1 ∷ fn 2 ∷ []) (trace nested [] 11) ≡ Some (Int (record { width = 32; bits = 9 })) ∷ None ∷ []
unfolding run step
a_skipped_call_holds_those_inside = refl

-- after five steps the call of h inside f has returned and f's hasn't
a_skipped_call_is_unfinished : depth_after (fn 1 ∷ []) 0 (trace nested [] 6) ≡ 1
unfolding run step
a_skipped_call_is_unfinished = refl

nothing_skipped_is_shown_in_full : outside [] (trace nested [] 3) ≡ Branched (fn 0) (at 0) 0 ∷ Branched (fn 1) (at 0) 0 ∷ []
unfolding run step
nothing_skipped_is_shown_in_full = refl
