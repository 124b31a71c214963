-- Each node keeps that numbers fit, and so does each run.
use Rattle.std.specs.Prelude.{slice_get, slice_set, unwrap_or, map, drop, reverse, nat_lt, All, ◌==◌, ◌%◌, ◌^◌, if◌then◌else◌}
use Rattle.std.specs.Option.{option_map, option_to_list}
use Rattle.std.proofs.Common.{ℕ, zero, suc, ◌+◌, ◌<◌, true, false, List, [], ◌∷◌, ◌++◌, length, Option, Some, None, arith}
use Rattle.std.proofs.lemmas.Bool.{and_parts}
use Rattle.std.proofs.lemmas.List.Elements.{recursion_from_All}
use Rattle.std.specs.List.{AllByRecursion as Each}
use Rattle.bitnum.specs.Operations.{applied}
use Rattle.bitnum.proofs.Fits.{applied_is}
use Rattle.checks.specs.Errors.{IsChecked}
use Rattle.checks.specs.Types.{type_at, is_scalar, has}
use Rattle.flat_ir.specs.declared.names.FuncId.{FuncId}
use Rattle.flat_ir.specs.declared.names.NodeId.{NodeId}
use Rattle.flat_ir.specs.declared.names.RegId.{RegId}
use Rattle.flat_ir.specs.declared.nodes.MoveSet.{MoveSet}
use Rattle.flat_ir.specs.declared.nodes.Node.{Node}
use Rattle.flat_ir.specs.declared.nodes.Node.TheVariants as node
use Rattle.flat_ir.specs.declared.nodes.Operand.{Operand}
use Rattle.flat_ir.specs.declared.nodes.RegType.{RegType}
use Rattle.flat_ir.specs.declared.nodes.RegType.TheVariants as type
use Rattle.flat_ir.specs.declared.program.Func.{Func}
use Rattle.flat_ir.specs.declared.program.ProgramData.{ProgramData}
use Rattle.flat_ir.specs.declared.values.Address.{Address}
use Rattle.flat_ir.specs.declared.values.ConcreteValue.{ConcreteValue}
use Rattle.flat_ir.specs.declared.values.ConcreteValue.TheVariants.{Int, Ptr}
use Rattle.flat_ir.specs.declared.values.FaultKind.{FaultKind}
use Rattle.flat_ir.specs.History.{History, Change, Write, Alloc, Free, Get, Put}
use Rattle.flat_ir.specs.Effects.{written_in, stored_in, freed_in}
use Rattle.flat_ir.specs.Registers.{null, zero_of, bytes_of_type, bytes_of_value}
use Rattle.flat_ir.specs.Machine.{Frame, State, Run, On, Over, func_at, regs_of, nodes_of, node_at, value_in, made_here, start, counted, set_if, at_node}
use Rattle.flat_ir.specs.Steps.{attempt, unless, gives, gives_if, gives_loaded, to, with_frame, with_history, number_in, address_in, division_fault, access_fault, free_fault, bit, related, cast_to, width_of, moved_by_all, new_here, allocated, loaded, byte_there, next_byte, set_all, case_of, branches, returns, ended, frees_at, frees_of_node, frees_from, call_next, call_result, set_result}
use Rattle.flat_ir.specs.Run.{run, goes_on, step-attempt, run-zero, run-suc}
use Rattle.flat_ir.specs.Whole.{IsWhole, IsWidth, IsFuncOf, operands_of}
use Rattle.flat_ir.proofs.MadeBasics.{each_map, each_append, each_reverse, each_set, each_read}
use Rattle.flat_ir.proofs.MadeKept.{with_place}
use Rattle.typed_runs.specs.TypedRuns.{IsTyped, RunIsTyped}
use Rattle.typed_runs.specs.FittingRuns.{Fits, OperandFits, NumbersFit, HoldsFitting, BytesFit, AreFitting, IsFitting, RunIsFitting}
use Rattle.typed_runs.specs.Shown.{OptionFits}
use Rattle.typed_runs.specs.Suiting.{result_of}
use Rattle.typed_runs.specs.Laws.{RunsFit, StepsKeepFitting}
use Rattle.typed_runs.proofs.Runs.{IsReady, ready_for, run_typed}
use Rattle.typed_runs.proofs.Suited.{func_widths, type_width, node_suits}
use Rattle.typed_runs.proofs.Numbers.{none_offset, number_fits, offset_fits, operand_fits, zeros_fit, each_drop, args_fit, bit_fits, cast_fits, moved_fits, read_fits}
use Rattle.typed_runs.proofs.Bytes.{few_bytes, writes_fit, stores_fit, frees_fit, there_fits, loaded_fits}

-- A node is about to be executed, and all that it may read fits.
pub record AllFits (p : ProgramData) (input : List ℕ) (n : Node) (s : State) : Type 0 where
  pub whole : IsWhole p
  pub numbers : NumbersFit p
  pub bytes : Each (λ b. b < 256) input
  pub ready : IsReady p n s
  pub operands : Each OperandFits (operands_of n)
  pub fitting : IsFitting s

-- a run that goes on if a test passes
unless_fits : (o : Option FaultKind) (s : State) (r : Run) → RunIsFitting r → RunIsFitting (unless o s r)
unless_fits None s r fitting = fitting
unless_fits (Some kind) s r fitting = tt

-- the operands of a program's node
funcs_fit : (fs : List Func) (k n : ℕ) → Each (λ f. All (λ m. All OperandFits (operands_of m)) f.nodes) fs
    → Each OperandFits (operands_of (unwrap_or (slice_get (nodes_of (slice_get fs k)) n) node.Unreachable))
funcs_fit [] k n all = tt
funcs_fit (f ∷ fs) zero n all =
    each_read (λ (m : Node). Each OperandFits (operands_of m)) f.nodes n node.Unreachable
    (each_map (λ (m : Node). All OperandFits (operands_of m)) (λ (m : Node). Each OperandFits (operands_of m)) (λ m it. recursion_from_All OperandFits (operands_of m) it) f.nodes
    (recursion_from_All (λ (m : Node). All OperandFits (operands_of m)) f.nodes all.0)) tt
funcs_fit (f ∷ fs) (suc k) n all = funcs_fit fs k n all.1

pub node_fits : (p : ProgramData) (f : FuncId) (n : NodeId) → NumbersFit p → Each OperandFits (operands_of (node_at p f n))
node_fits p f n numbers = funcs_fit p.funcs f.0 n.0 (recursion_from_All (λ (g : Func). All (λ m. All OperandFits (operands_of m)) g.nodes) p.funcs numbers.nodes)

-- the frame goes on elsewhere, with these registers and this history
goes : (s : State) (n : NodeId) (regs : List ConcreteValue) (h : History) → IsFitting s → Each Fits regs → BytesFit h → AreFitting (with_place n regs s.frame) s.callers h
goes s n regs h fitting all bytes = record { frame = all; callers = fitting.callers; bytes = bytes }

leads : (s : State) (n : NodeId) (h : History) → IsFitting s → BytesFit h → AreFitting (with_place n s.frame.regs s.frame) s.callers h
leads s n h fitting bytes = goes s n s.frame.regs h fitting fitting.frame bytes

sets_register : (s : State) (r : RegId) (v : ConcreteValue) (n : NodeId) → IsFitting s → Fits v → AreFitting (with_place n (slice_set s.frame.regs r.0 v) s.frame) s.callers s.history
sets_register s r v n fitting it = goes s n (slice_set s.frame.regs r.0 v) s.history fitting (each_set Fits s.frame.regs r.0 v fitting.frame it) fitting.bytes

sets_pointer : (s : State) (result : Option RegId) (a : Address) (n : NodeId) → IsFitting s → a.offset < 2 ^ 64 → AreFitting (at_node n (set_if result (Ptr a) s.frame)) s.callers s.history
sets_pointer s None a n fitting it = leads s n s.history fitting fitting.bytes
sets_pointer s (Some r) a n fitting it = sets_register s r (Ptr a) n fitting it

-- a new object holds no byte that was written
makes : (s : State) (size : ℕ) → IsFitting s → IsFitting (allocated size s)
makes s size fitting = record { frame = fitting.frame; callers = fitting.callers; bytes = fitting.bytes }

loads : (s : State) (o : Option ConcreteValue) (r : RegId) (n : NodeId) → IsFitting s → OptionFits o → RunIsFitting (gives_loaded o r n s)
loads s None r n fitting it = tt
loads s (Some v) r n fitting it = sets_register s r v n fitting it

moves : (s : State) (n : NodeId) (ms : List MoveSet) (regs : List ConcreteValue) → IsFitting s → Each OperandFits (map (λ m. m.value) ms) → Each Fits regs
    → AreFitting (at_node n (set_all s.frame ms (with_place s.frame.node regs s.frame))) s.callers s.history
moves s n [] regs fitting operands all = goes s n regs s.history fitting all fitting.bytes
moves s n (m ∷ ms) regs fitting operands all =
    let v : ConcreteValue = value_in s.frame m.value in
    moves s n ms (slice_set regs m.register.0 v) fitting operands.1 (each_set Fits regs m.register.0 v all (operand_fits s.frame m.value fitting.frame operands.0))

-- a return: its frees write nothing
abbrev IsFree : Change → Type 0
IsFree (Free x) = Unit {0}
IsFree _ = ⊥

frees_of_node_are : (f : Frame) (n : NodeId) (count k : ℕ) → Each IsFree (frees_of_node f n count k)
frees_of_node_are f n zero k = tt
frees_of_node_are f n (suc more) k = (tt, frees_of_node_are f n more (k + 1))

frees_at_are : (f : Frame) (n : NodeId) (count : ℕ) (kind : Node) → Each IsFree (frees_at f n count kind)
frees_at_are f n count (node.Alloca size result next) = frees_of_node_are f n count 1
frees_at_are f n count _ = tt

frees_are : (f : Frame) (k : ℕ) (ns : List Node) → Each IsFree (frees_from f k ns)
frees_are f k [] = tt
frees_are f k (n ∷ ns) =
    each_append IsFree (frees_at f (record { 0 = k }) (unwrap_or (slice_get f.counts k) 0) n) (frees_from f (k + 1) ns)
    (frees_at_are f (record { 0 = k }) (unwrap_or (slice_get f.counts k) 0) n) (frees_are f (k + 1) ns)

behind_frees : (fr : List Change) (h : History) → Each IsFree fr → BytesFit h → BytesFit (fr ++ h)
behind_frees [] h are all = all
behind_frees (Free x ∷ fr) h are all = behind_frees fr h are.1 all
behind_frees (Write x k b ∷ fr) h are all = absurd are.0
behind_frees (Alloc x size ∷ fr) h are all = absurd are.0
behind_frees (Get ∷ fr) h are all = absurd are.0
behind_frees (Put b ∷ fr) h are all = absurd are.0

resumes : (g : Frame) (gs : List Frame) (n : NodeId) (result : Option RegId) (v : Option ConcreteValue) (h : History)
    → HoldsFitting g → Each HoldsFitting gs → BytesFit h → OptionFits v → AreFitting (at_node n (set_result result v g)) gs h
resumes g gs n result None h holds callers bytes it = record { frame = holds; callers = callers; bytes = bytes }
resumes g gs n None (Some v) h holds callers bytes it = record { frame = holds; callers = callers; bytes = bytes }
resumes g gs n (Some r) (Some v) h holds callers bytes it = record { frame = each_set Fits g.regs r.0 v holds it; callers = callers; bytes = bytes }

returns_fit : (p : ProgramData) (fs : List Frame) (v : Option ConcreteValue) (s : State) → Each HoldsFitting fs → BytesFit s.history → OptionFits v → RunIsFitting (returns p v fs s)
returns_fit p [] v s callers bytes it = tt
returns_fit p (g ∷ gs) v s callers bytes it =
    let call : Node = node_at p g.func g.node in
    resumes g gs (call_next call) (call_result call) v s.history callers.0 callers.1 bytes it

pub given_fits : (f : Frame) (a : Option Operand) → HoldsFitting f → Each OperandFits (option_to_list a) → OptionFits (option_map (value_in f) a)
given_fits f None holds all = tt
given_fits f (Some a) holds all = operand_fits f a holds all.0

-- what executing a node keeps
pub attempt_fits : (p : ProgramData) (input : List ℕ) (n : Node) (s : State) → AllFits p input n s → RunIsFitting (attempt p input n s)
attempt_fits p input (node.Bin op a b result next) s it =
    let first = number_fits (value_in s.frame a) (operand_fits s.frame a it.fitting.frame it.operands.0) in
    let second = number_fits (value_in s.frame b) (operand_fits s.frame b it.fitting.frame it.operands.1.0) in
    let same = node_suits p s.frame (result_of (func_at p s.frame.func)) (node.Bin op a b result next) it.whole it.ready.typed.frame it.ready.node in
    let v : ConcreteValue = Int (applied op (number_in s a) (number_in s b)) in
    unless_fits (division_fault op (number_in s a) (number_in s b)) s (gives result v next s)
    (sets_register s result v next it.fitting (applied_is op (number_in s a) (number_in s b) first second same))
attempt_fits p input (node.Cmp pr a b result next) s it =
    sets_register s result (bit (related pr (value_in s.frame a) (value_in s.frame b))) next it.fitting (bit_fits (related pr (value_in s.frame a) (value_in s.frame b)))
attempt_fits p input (node.Cast op a result next) s it =
    let w : ℕ = width_of (type_at (regs_of (func_at p s.frame.func)) result) in
    let suits = node_suits p s.frame (result_of (func_at p s.frame.func)) (node.Cast op a result next) it.whole it.ready.typed.frame it.ready.node in
    sets_register s result (Int (cast_to op w (number_in s a))) next it.fitting
    (cast_fits op (number_in s a) w (number_fits (value_in s.frame a) (operand_fits s.frame a it.fitting.frame it.operands.0)) suits.0 suits.1)
attempt_fits p input (node.Gep base parts result next) s it =
    let a : Address = address_in s base in
    sets_register s result (Ptr (record { base = a.base; offset = moved_by_all s a.offset parts })) next it.fitting
    (moved_fits s a.offset parts (offset_fits (value_in s.frame base) (operand_fits s.frame base it.fitting.frame it.operands.0)))
attempt_fits p input (node.Select condition a b result next) s it =
    sets_register s result (if (number_in s condition).bits == 1 then value_in s.frame a else value_in s.frame b) next it.fitting
    (elim ((number_in s condition).bits == 1) as (λ c. Fits (if c then value_in s.frame a else value_in s.frame b)) [
      | true ↦ operand_fits s.frame a it.fitting.frame it.operands.1.0
      | false ↦ operand_fits s.frame b it.fitting.frame it.operands.1.1.0
    ])
attempt_fits p input (node.Alloca size result next) s it = sets_pointer (allocated size s) (Some result) (record { base = Some (made_here s.frame); offset = 0 }) next (makes s size it.fitting) none_offset
attempt_fits p input (node.Malloc size result next) s it =
    elim (nat_lt 65536 (number_in s size).bits) as (λ t. RunIsFitting (if t then gives_if result (Ptr null) next s else gives_if result (new_here s) next (allocated (number_in s size).bits s))) [
      | true ↦ sets_pointer s result null next it.fitting none_offset
      | false ↦ sets_pointer (allocated (number_in s size).bits s) result (record { base = Some (made_here s.frame); offset = 0 }) next (makes s (number_in s size).bits it.fitting) none_offset
    ]
attempt_fits p input (node.Free pointer next) s it =
    let a : Address = address_in s pointer in
    unless_fits (free_fault p s.history a) s (to next (with_history (freed_in a s.history) s))
    (leads s next (freed_in a s.history) it.fitting (frees_fit a.base s.history it.fitting.bytes))
attempt_fits p input (node.Load pointer result next) s it =
    let t : RegType = type_at (regs_of (func_at p s.frame.func)) result in
    let a : Address = address_in s pointer in
    let typed = and_parts (has (regs_of (func_at p s.frame.func)) pointer type.Ptr) (is_scalar t) it.ready.node in
    unless_fits (access_fault p s.history (bytes_of_type t) a) s (gives_loaded (loaded p s.history a t) result next s)
    (loads s (loaded p s.history a t) result next it.fitting
    (loaded_fits p s.history a t it.whole it.numbers it.fitting.bytes (type_width p s.frame result it.whole) typed.1))
attempt_fits p input (node.Store value pointer next) s it =
    let v : ConcreteValue = value_in s.frame value in
    let a : Address = address_in s pointer in
    let h : History = stored_in (bytes_of_value v) 0 a v s.history in
    let fits = operand_fits s.frame value it.fitting.frame it.operands.0 in
    unless_fits (access_fault p s.history (bytes_of_value v) a) s (to next (with_history h s))
    (leads s next h it.fitting (stores_fit (bytes_of_value v) 0 a v s.history (omega (arith, few_bytes v fits)) fits it.fitting.bytes))
attempt_fits p input (node.Copy from there next) s it =
    let a : Address = address_in s from in
    let b : Address = address_in s there in
    let h : History = written_in b (byte_there p s.history a 0) 0 s.history in
    let r : Run = to next (with_history h s) in
    unless_fits (access_fault p s.history 1 a) s (unless (access_fault p s.history 1 b) s r)
    (unless_fits (access_fault p s.history 1 b) s r
    (leads s next h it.fitting (writes_fit b.base ((b.offset + 0) % 2 ^ 64) (byte_there p s.history a 0) s.history (there_fits p s.history a 0 it.whole it.numbers it.fitting.bytes) it.fitting.bytes)))
attempt_fits p input (node.In result next) s it =
    let v : ConcreteValue = next_byte input s.history in
    goes s next (slice_set s.frame.regs result.0 v) (Get ∷ s.history) it.fitting (each_set Fits s.frame.regs result.0 v it.fitting.frame (read_fits input s.history it.bytes)) it.fitting.bytes
attempt_fits p input (node.Put value next) s it = leads s next (Put ((number_in s value).bits % 256) ∷ s.history) it.fitting it.fitting.bytes
attempt_fits p input (node.Call callee args result next) s it =
    let values : List ConcreteValue = map (value_in s.frame) args in
    let ts : List RegType = regs_of (func_at p callee) in
    let widths = func_widths (length p.globals) (length p.funcs) p.funcs callee.0 (recursion_from_All (IsFuncOf (length p.globals) (length p.funcs)) p.funcs it.whole.funcs) in
    record {
      frame = each_append Fits values (map zero_of (drop (length values) ts)) (args_fit s.frame args it.fitting.frame it.operands)
          (zeros_fit (drop (length values) ts) (each_drop IsWidth (length values) ts widths));
      callers = (it.fitting.frame, it.fitting.callers);
      bytes = it.fitting.bytes;
    }
attempt_fits p input (node.Moves ms next) s it = moves s next ms s.frame.regs it.fitting it.operands it.fitting.frame
attempt_fits p input (node.Jump next) s it = leads s next s.history it.fitting it.fitting.bytes
attempt_fits p input (node.Branch condition first second) s it =
    elim ((number_in s condition).bits == 1) as (λ t. RunIsFitting (if t then branches 0 first s else branches 1 second s)) [
      | true ↦ leads s first s.history it.fitting it.fitting.bytes
      | false ↦ leads s second s.history it.fitting it.fitting.bytes
    ]
attempt_fits p input (node.Switch value cases otherwise) s it = leads s (case_of (number_in s value).bits 0 cases otherwise).1 s.history it.fitting it.fitting.bytes
attempt_fits p input (node.Ret value) s it =
    let fr : List Change = frees_from s.frame 0 (nodes_of (func_at p s.frame.func)) in
    returns_fit p s.callers (option_map (value_in s.frame) value) (ended p s) it.fitting.callers
    (behind_frees (reverse fr) s.history (each_reverse IsFree fr (frees_are s.frame 0 (nodes_of (func_at p s.frame.func)))) it.fitting.bytes)
    (given_fits s.frame value it.fitting.frame it.operands)
attempt_fits p input (node.Exit status) s it = tt
attempt_fits p input node.Abort s it = tt
attempt_fits p input (node.Assert args) s it = tt
attempt_fits p input node.Unreachable s it = tt

-- the node at which a typed state stands may read nothing that doesn't fit
pub fits_for : (p : ProgramData) (input : List ℕ) (s : State) → IsWhole p → IsChecked p.funcs → NumbersFit p → All (λ b. b < 256) input
    → IsTyped p s → IsFitting s → AllFits p input (node_at p s.frame.func s.frame.node) (with_frame (counted s.frame) s)
fits_for p input s whole checked numbers bytes typed fitting = record {
  whole = whole;
  numbers = numbers;
  bytes = recursion_from_All (λ b. b < 256) input bytes;
  ready = ready_for p s checked typed;
  operands = node_fits p s.frame.func s.frame.node numbers;
  fitting = record { frame = fitting.frame; callers = fitting.callers; bytes = fitting.bytes };
}

-- a step from a typed state in which all fits leads to one
pub step_fits : StepsKeepFitting
step_fits p input s whole checked numbers bytes typed fitting =
    rw (step-attempt p input s) (attempt_fits p input (node_at p s.frame.func s.frame.node) (with_frame (counted s.frame) s)
    (fits_for p input s whole checked numbers bytes typed fitting))

-- all fits in main's first state
pub start_fits : (p : ProgramData) → IsWhole p → IsFitting (start p)
start_fits p whole = record {
  frame = zeros_fit (regs_of (func_at p p.main))
      (func_widths (length p.globals) (length p.funcs) p.funcs p.main.0 (recursion_from_All (IsFuncOf (length p.globals) (length p.funcs)) p.funcs whole.funcs));
  callers = tt;
  bytes = tt;
}

-- all fits in each state of each run
pub run_fits : RunsFit
run_fits p input n whole checked numbers bytes = go n
  where
    more : (r : Run) → RunIsTyped p r → RunIsFitting r → RunIsFitting (goes_on p input r)
    more (On s) typed fitting = step_fits p input s whole checked numbers bytes typed fitting
    more (Over e s) typed fitting = tt

    go : (n : ℕ) → RunIsFitting (run p input n)
    go zero = rw (run-zero p input) (start_fits p whole)
    go (suc n) = rw (run-suc p input n) (more (run p input n) (run_typed p input n checked) (go n))
