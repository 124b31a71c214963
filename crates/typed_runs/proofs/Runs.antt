-- Each node keeps types, and so does each run.
use Rattle.std.specs.Prelude.{slice_set, map, drop, take, nat_lt, ◌==◌, if◌then◌else◌}
use Rattle.std.specs.Option.{option_map}
use Rattle.std.proofs.Common.{◌≡◌, ℕ, zero, suc, true, false, List, [], ◌∷◌, ◌++◌, length, Option, Some, None, refl, sym, subst}
use Rattle.std.proofs.lemmas.Bool.{and_parts}
use Rattle.std.specs.List.{AllByRecursion as Each}
use Rattle.bitnum.specs.Operations.{applied}
use Rattle.checks.specs.Errors.{IsChecked}
use Rattle.checks.specs.Types.{type_of, type_at, same_type, is_int, has, sets, have, compares, are_indexed, are_moved}
use Rattle.checks.specs.Typed.{calls, is_typed}
use Rattle.flat_ir.specs.declared.names.FuncId.{FuncId}
use Rattle.flat_ir.specs.declared.names.NodeId.{NodeId}
use Rattle.flat_ir.specs.declared.names.RegId.{RegId}
use Rattle.flat_ir.specs.declared.nodes.MoveSet.{MoveSet}
use Rattle.flat_ir.specs.declared.nodes.Node.{Node}
use Rattle.flat_ir.specs.declared.nodes.Node.TheVariants as node
use Rattle.flat_ir.specs.declared.nodes.Operand.{Operand}
use Rattle.flat_ir.specs.declared.nodes.RegType.{RegType}
use Rattle.flat_ir.specs.declared.nodes.RegType.TheVariants as type
use Rattle.flat_ir.specs.declared.program.Func.{Func}
use Rattle.flat_ir.specs.declared.program.ProgramData.{ProgramData}
use Rattle.flat_ir.specs.declared.values.Address.{Address}
use Rattle.flat_ir.specs.declared.values.ConcreteValue.{ConcreteValue}
use Rattle.flat_ir.specs.declared.values.ConcreteValue.TheVariants.{Int, Ptr}
use Rattle.flat_ir.specs.declared.values.FaultKind.{FaultKind}
use Rattle.flat_ir.specs.Effects.{written_in, stored_in, freed_in}
use Rattle.flat_ir.specs.Registers.{null, zero_of, first_of, bytes_of_type, bytes_of_value}
use Rattle.flat_ir.specs.Machine.{Frame, State, Run, On, Over, func_at, regs_of, node_at, value_in, start, counted, made_here, set_if, at_node}
use Rattle.flat_ir.specs.Steps.{attempt, unless, gives, gives_if, gives_loaded, to, with_frame, with_history, number_in, address_in, division_fault, access_fault, free_fault, bit, related, cast_to, width_of, moved_by_all, new_here, allocated, loaded, byte_there, next_byte, set_all, case_of, branches, returns, ended, call_next, call_result, set_result}
use Rattle.flat_ir.specs.Run.{run, goes_on, step-attempt, run-zero, run-suc}
use Rattle.flat_ir.proofs.MadeKept.{with_place}
use Rattle.typed_runs.specs.TypedRuns.{HasType, HaveTypes, HoldsTypes, IsCallOf, WaitAtCalls, AreTyped, IsTyped, RunIsTyped}
use Rattle.typed_runs.specs.Shown.{IsGiven}
use Rattle.typed_runs.specs.Suiting.{result_of}
use Rattle.typed_runs.specs.Laws.{StepsKeepTypes}
use Rattle.typed_runs.proofs.Checked.{node_typed}
use Rattle.typed_runs.proofs.Types.{all_three, of_same, have_set, zeros_have, operand_is, as_wide, args_have}
use Rattle.typed_runs.proofs.Values.{OptionHas, cast_has, joined_has, given, call_sets}

-- the types of the registers of the frame's function, and of its result
abbrev types_of : ProgramData → Frame → List RegType
types_of p f = regs_of (func_at p f.func)

abbrev type_in : ProgramData → Frame → RegId → RegType
type_in p f r = type_at (types_of p f) r

-- A node is about to be executed: its frame stands there, in a typed state, and it has the types that it needs.
pub record IsReady (p : ProgramData) (n : Node) (s : State) : Type 0 where
  pub checked : IsChecked p.funcs
  pub typed : IsTyped p s
  pub at : node_at p s.frame.func s.frame.node ≡ n
  pub node : is_typed p.funcs (types_of p s.frame) (result_of (func_at p s.frame.func)) n ≡ true

-- a run that goes on if a test passes
unless_typed : (p : ProgramData) (o : Option FaultKind) (s : State) (r : Run) → RunIsTyped p r → RunIsTyped p (unless o s r)
unless_typed p None s r typed = typed
unless_typed p (Some kind) s r typed = tt

-- what waits does so below any frame of the same function
waits_as : (p : ProgramData) (f g : Frame) (fs : List Frame) → f.func ≡ g.func → WaitAtCalls p f fs → WaitAtCalls p g fs
waits_as p f g [] e waits = tt
waits_as p f g (c ∷ cs) e waits = (subst (λ (h : FuncId). IsCallOf h (node_at p c.func c.node)) e waits.0, waits.1)

-- the frame goes on elsewhere, with these registers
goes_from : (p : ProgramData) (f : Frame) (fs : List Frame) (n : NodeId) (regs : List ConcreteValue)
    → Each (HoldsTypes p) fs → WaitAtCalls p f fs → HaveTypes (types_of p f) regs → AreTyped p (with_place n regs f) fs
goes_from p f fs n regs callers waits all = record {
  frame = all;
  callers = callers;
  calls = waits_as p f (with_place n regs f) fs refl waits;
}

goes : (p : ProgramData) (s : State) (n : NodeId) (regs : List ConcreteValue) → IsTyped p s → HaveTypes (types_of p s.frame) regs → AreTyped p (with_place n regs s.frame) s.callers
goes p s n regs typed all = goes_from p s.frame s.callers n regs typed.callers typed.calls all

leads : (p : ProgramData) (s : State) (n : NodeId) → IsTyped p s → AreTyped p (with_place n s.frame.regs s.frame) s.callers
leads p s n typed = goes p s n s.frame.regs typed typed.frame

sets_register : (p : ProgramData) (s : State) (r : RegId) (v : ConcreteValue) (n : NodeId) → IsTyped p s → HasType (type_in p s.frame r) v
    → AreTyped p (with_place n (slice_set s.frame.regs r.0 v) s.frame) s.callers
sets_register p s r v n typed has_type = goes p s n (slice_set s.frame.regs r.0 v) typed (have_set (types_of p s.frame) s.frame.regs r.0 v typed.frame has_type)

-- a register, if one is named, is set to an address
sets_pointer : (p : ProgramData) (s : State) (result : Option RegId) (a : Address) (n : NodeId) → IsTyped p s → sets (types_of p s.frame) result (Some type.Ptr) ≡ true
    → AreTyped p (at_node n (set_if result (Ptr a) s.frame)) s.callers
sets_pointer p s None a n typed e = cc
sets_pointer p s (Some r) a n typed e = sets_register p s r (Ptr a) n typed (of_same (type_in p s.frame r) type.Ptr (Ptr a) e tt)

-- a load
loads : (p : ProgramData) (s : State) (o : Option ConcreteValue) (r : RegId) (n : NodeId) → IsTyped p s → OptionHas (type_in p s.frame r) o → RunIsTyped p (gives_loaded o r n s)
loads p s None r n typed has_type = tt
loads p s (Some v) r n typed has_type = sets_register p s r v n typed has_type

-- moves
moves : (p : ProgramData) (s : State) (n : NodeId) (ms : List MoveSet) (regs : List ConcreteValue) → IsTyped p s → are_moved (types_of p s.frame) ms ≡ true
    → HaveTypes (types_of p s.frame) regs → AreTyped p (at_node n (set_all s.frame ms (with_place s.frame.node regs s.frame))) s.callers
moves p s n [] regs typed e all = goes p s n regs typed all
moves p s n (m ∷ ms) regs typed e all =
    let v : ConcreteValue = value_in s.frame m.value in
    let parts = and_parts (has (types_of p s.frame) m.value (type_in p s.frame m.register)) (are_moved (types_of p s.frame) ms) e in
    moves p s n ms (slice_set regs m.register.0 v) typed parts.1
    (have_set (types_of p s.frame) regs m.register.0 v all (operand_is p s.frame m.value (type_in p s.frame m.register) typed.frame parts.0))

-- a call
entered_have : (p : ProgramData) (f : Frame) (callee : Option Func) (args : List Operand) (result : Option RegId) → HoldsTypes p f
    → calls (types_of p f) callee args result ≡ true
    → HaveTypes (regs_of callee) (map (value_in f) args ++ map zero_of (drop (length (map (value_in f) args)) (regs_of callee)))
entered_have p f None args result holds e = cc
entered_have p f (Some g) args result holds e =
    args_have p f args g.params g.regs holds (and_parts (have (types_of p f) args (take g.params g.regs)) (sets (types_of p f) result g.result) e).0

-- a return
resumes : (p : ProgramData) (g : Frame) (gs : List Frame) (n : NodeId) (result : Option RegId) (o : Option RegType) (v : Option ConcreteValue)
    → HoldsTypes p g → Each (HoldsTypes p) gs → WaitAtCalls p g gs → sets (types_of p g) result o ≡ true → IsGiven o v
    → AreTyped p (at_node n (set_result result v g)) gs
resumes p g gs n result o None holds callers waits e is = goes_from p g gs n g.regs callers waits holds
resumes p g gs n None None (Some v) holds callers waits e is = absurd is
resumes p g gs n None (Some t) (Some v) holds callers waits e is = cc
resumes p g gs n (Some r) None (Some v) holds callers waits e is = absurd is
resumes p g gs n (Some r) (Some t) (Some v) holds callers waits e is =
    goes_from p g gs n (slice_set g.regs r.0 v) callers waits (have_set (types_of p g) g.regs r.0 v holds (of_same (type_in p g r) t v e is))

returns_typed : (p : ProgramData) (f : Frame) (fs : List Frame) (v : Option ConcreteValue) (s : State) → IsChecked p.funcs
    → Each (HoldsTypes p) fs → WaitAtCalls p f fs → IsGiven (result_of (func_at p f.func)) v → RunIsTyped p (returns p v fs s)
returns_typed p f [] v s checked callers waits is = tt
returns_typed p f (g ∷ gs) v s checked callers waits is =
    let call : Node = node_at p g.func g.node in
    resumes p g gs (call_next call) (call_result call) (result_of (func_at p f.func)) v callers.0 callers.1 waits.1
    (call_sets p.funcs (types_of p g) (result_of (func_at p g.func)) call f.func waits.0 (node_typed p g.func g.node checked)) is

-- what executing a node keeps
pub attempt_typed : (p : ProgramData) (input : List ℕ) (n : Node) (s : State) → IsReady p n s → RunIsTyped p (attempt p input n s)
attempt_typed p input (node.Bin op a b result next) s ready =
    let t : RegType = type_in p s.frame result in
    let parts = all_three (is_int t) (has (types_of p s.frame) a t) (has (types_of p s.frame) b t) ready.node in
    let v : ConcreteValue = Int (applied op (number_in s a) (number_in s b)) in
    unless_typed p (division_fault op (number_in s a) (number_in s b)) s (gives result v next s)
    (sets_register p s result v next ready.typed (as_wide t (value_in s.frame a) (applied op (number_in s a) (number_in s b)) parts.0 (operand_is p s.frame a t ready.typed.frame parts.1) refl))
attempt_typed p input (node.Cmp pr a b result next) s ready =
    let t : RegType = type_in p s.frame result in
    let v : ConcreteValue = bit (related pr (value_in s.frame a) (value_in s.frame b)) in
    let parts = and_parts (same_type t (type.Int 1)) (compares pr (type_of (types_of p s.frame) a) (type_of (types_of p s.frame) b)) ready.node in
    sets_register p s result v next ready.typed (of_same t (type.Int 1) v parts.0 refl)
attempt_typed p input (node.Cast op a result next) s ready =
    let t : RegType = type_in p s.frame result in
    sets_register p s result (Int (cast_to op (width_of t) (number_in s a))) next ready.typed (cast_has op (type_of (types_of p s.frame) a) t (number_in s a) ready.node)
attempt_typed p input (node.Gep base parts result next) s ready =
    let t : RegType = type_in p s.frame result in
    let v : ConcreteValue = Ptr (record { base = (address_in s base).base; offset = moved_by_all s (address_in s base).offset parts }) in
    let tests = all_three (has (types_of p s.frame) base type.Ptr) (are_indexed (types_of p s.frame) parts) (same_type t type.Ptr) ready.node in
    sets_register p s result v next ready.typed (of_same t type.Ptr v tests.2 tt)
attempt_typed p input (node.Select condition a b result next) s ready =
    let t : RegType = type_in p s.frame result in
    let v : ConcreteValue = if (number_in s condition).bits == 1 then value_in s.frame a else value_in s.frame b in
    let parts = all_three (has (types_of p s.frame) condition (type.Int 1)) (has (types_of p s.frame) a t) (has (types_of p s.frame) b t) ready.node in
    sets_register p s result v next ready.typed
    (elim ((number_in s condition).bits == 1) as (λ c. HasType t (if c then value_in s.frame a else value_in s.frame b)) [
      | true ↦ operand_is p s.frame a t ready.typed.frame parts.1
      | false ↦ operand_is p s.frame b t ready.typed.frame parts.2
    ])
attempt_typed p input (node.Alloca size result next) s ready =
    sets_register p s result (new_here s) next ready.typed (of_same (type_in p s.frame result) type.Ptr (new_here s) ready.node tt)
attempt_typed p input (node.Malloc size result next) s ready =
    let parts = and_parts (has (types_of p s.frame) size (type.Int 64)) (sets (types_of p s.frame) result (Some type.Ptr)) ready.node in
    elim (nat_lt 65536 (number_in s size).bits) as (λ t. RunIsTyped p (if t then gives_if result (Ptr null) next s else gives_if result (new_here s) next (allocated (number_in s size).bits s))) [
      | true ↦ sets_pointer p s result null next ready.typed parts.1
      | false ↦ sets_pointer p s result (record { base = Some (made_here s.frame); offset = 0 }) next ready.typed parts.1
    ]
attempt_typed p input (node.Free pointer next) s ready =
    let a : Address = address_in s pointer in
    unless_typed p (free_fault p s.history a) s (to next (with_history (freed_in a s.history) s)) (leads p s next ready.typed)
attempt_typed p input (node.Load pointer result next) s ready =
    let t : RegType = type_in p s.frame result in
    let a : Address = address_in s pointer in
    unless_typed p (access_fault p s.history (bytes_of_type t) a) s (gives_loaded (loaded p s.history a t) result next s)
    (loads p s (loaded p s.history a t) result next ready.typed (joined_has t (first_of (bytes_of_type t) 0 (byte_there p s.history a))))
attempt_typed p input (node.Store value pointer next) s ready =
    let v : ConcreteValue = value_in s.frame value in
    let a : Address = address_in s pointer in
    unless_typed p (access_fault p s.history (bytes_of_value v) a) s (to next (with_history (stored_in (bytes_of_value v) 0 a v s.history) s)) (leads p s next ready.typed)
attempt_typed p input (node.Copy from there next) s ready =
    let a : Address = address_in s from in
    let b : Address = address_in s there in
    let r : Run = to next (with_history (written_in b (byte_there p s.history a 0) 0 s.history) s) in
    unless_typed p (access_fault p s.history 1 a) s (unless (access_fault p s.history 1 b) s r)
    (unless_typed p (access_fault p s.history 1 b) s r (leads p s next ready.typed))
attempt_typed p input (node.In result next) s ready =
    sets_register p s result (next_byte input s.history) next ready.typed (of_same (type_in p s.frame result) (type.Int 32) (next_byte input s.history) ready.node refl)
attempt_typed p input (node.Put value next) s ready = leads p s next ready.typed
attempt_typed p input (node.Call callee args result next) s ready =
    record {
      frame = entered_have p s.frame (func_at p callee) args result ready.typed.frame ready.node;
      callers = (ready.typed.frame, ready.typed.callers);
      calls = (subst (IsCallOf callee) (sym ready.at) refl, ready.typed.calls);
    }
attempt_typed p input (node.Moves ms next) s ready = moves p s next ms s.frame.regs ready.typed ready.node ready.typed.frame
attempt_typed p input (node.Jump next) s ready = leads p s next ready.typed
attempt_typed p input (node.Branch condition first second) s ready =
    elim ((number_in s condition).bits == 1) as (λ t. RunIsTyped p (if t then branches 0 first s else branches 1 second s)) [
      | true ↦ leads p s first ready.typed
      | false ↦ leads p s second ready.typed
    ]
attempt_typed p input (node.Switch value cases otherwise) s ready = leads p s (case_of (number_in s value).bits 0 cases otherwise).1 ready.typed
attempt_typed p input (node.Ret value) s ready =
    returns_typed p s.frame s.callers (option_map (value_in s.frame) value) (ended p s) ready.checked ready.typed.callers ready.typed.calls
    (given p s.frame value (result_of (func_at p s.frame.func)) ready.typed.frame ready.node)
attempt_typed p input (node.Exit status) s ready = tt
attempt_typed p input node.Abort s ready = tt
attempt_typed p input (node.Assert args) s ready = tt
attempt_typed p input node.Unreachable s ready = tt

-- the node at which a typed state stands is ready once it is counted
pub ready_for : (p : ProgramData) (s : State) → IsChecked p.funcs → IsTyped p s → IsReady p (node_at p s.frame.func s.frame.node) (with_frame (counted s.frame) s)
ready_for p s checked typed = record {
  checked = checked;
  typed = record {
    frame = typed.frame;
    callers = typed.callers;
    calls = waits_as p s.frame (counted s.frame) s.callers refl typed.calls;
  };
  at = refl;
  node = node_typed p s.frame.func s.frame.node checked;
}

-- a step from a typed state leads to one
pub step_typed : StepsKeepTypes
step_typed p input s checked typed =
    rw (step-attempt p input s) (attempt_typed p input (node_at p s.frame.func s.frame.node) (with_frame (counted s.frame) s) (ready_for p s checked typed))

-- main's first state is typed
pub start_typed : (p : ProgramData) → IsTyped p (start p)
start_typed p = record {
  frame = zeros_have (regs_of (func_at p p.main));
  callers = tt;
  calls = tt;
}

-- each state of each run is typed
pub run_typed : (p : ProgramData) (input : List ℕ) (n : ℕ) → IsChecked p.funcs → RunIsTyped p (run p input n)
run_typed p input zero checked = rw (run-zero p input) (start_typed p)
run_typed p input (suc n) checked = rw (run-suc p input n) (more (run p input n) (run_typed p input n checked))
  where
    more : (r : Run) → RunIsTyped p r → RunIsTyped p (goes_on p input r)
    more (On s) typed = step_typed p input s checked typed
    more (Over e s) typed = tt
