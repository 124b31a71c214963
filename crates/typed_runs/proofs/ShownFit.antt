-- Each value that a run shows fits.
use Rattle.std.specs.Prelude.{nat_lt, All, ◌==◌, if◌then◌else◌}
use Rattle.std.specs.Option.{option_map}
use Rattle.std.proofs.Common.{ℕ, zero, suc, ◌<◌, true, false, List, [], ◌∷◌, ◌++◌, Option, Some, None}
use Rattle.std.proofs.lemmas.Bool.{and_parts}
use Rattle.std.specs.List.{AllByRecursion as Each}
use Rattle.bitnum.specs.Operations.{applied}
use Rattle.checks.specs.Errors.{IsChecked}
use Rattle.checks.specs.Types.{is_scalar, has}
use Rattle.flat_ir.specs.declared.names.NodeId.{NodeId}
use Rattle.flat_ir.specs.declared.names.RegId.{RegId}
use Rattle.flat_ir.specs.declared.nodes.Node.{Node}
use Rattle.flat_ir.specs.declared.nodes.Node.TheVariants as node
use Rattle.flat_ir.specs.declared.nodes.RegType.{RegType}
use Rattle.flat_ir.specs.declared.nodes.RegType.TheVariants as type
use Rattle.flat_ir.specs.declared.program.ProgramData.{ProgramData}
use Rattle.flat_ir.specs.declared.values.Address.{Address}
use Rattle.flat_ir.specs.declared.values.ConcreteValue.{ConcreteValue}
use Rattle.flat_ir.specs.declared.values.ConcreteValue.TheVariants.{Int, Ptr}
use Rattle.flat_ir.specs.declared.values.FaultKind.{FaultKind}
use Rattle.flat_ir.specs.Effects.{written_in, stored_in, freed_in}
use Rattle.flat_ir.specs.Registers.{null, bytes_of_type, bytes_of_value}
use Rattle.flat_ir.specs.Machine.{Event, Branched, Loaded, Entered, Returned, Frame, State, Run, On, Over, state_of, func_at, regs_of, node_at, type_at, value_in, counted}
use Rattle.flat_ir.specs.Steps.{attempt, unless, gives, gives_if, gives_loaded, to, with_frame, with_history, number_in, address_in, division_fault, access_fault, free_fault, new_here, allocated, loaded, byte_there, case_of, branches, returns, ended}
use Rattle.flat_ir.specs.Run.{run, goes_on, step-attempt, run-zero, run-suc}
use Rattle.flat_ir.specs.Whole.{IsWhole}
use Rattle.flat_ir.proofs.MadeBasics.{each_append}
use Rattle.typed_runs.specs.TypedRuns.{RunIsTyped}
use Rattle.typed_runs.specs.FittingRuns.{NumbersFit, RunIsFitting}
use Rattle.typed_runs.specs.Shown.{OptionFits, EventFits}
use Rattle.typed_runs.specs.Laws.{TracesFit}
use Rattle.typed_runs.proofs.Runs.{run_typed}
use Rattle.typed_runs.proofs.Fitted.{AllFits, fits_for, given_fits, run_fits}
use Rattle.typed_runs.proofs.Suited.{type_width}
use Rattle.typed_runs.proofs.Bytes.{loaded_fits}

abbrev ShownFits : State → Type 0
ShownFits s = Each EventFits s.events

abbrev RunShownFits : Run → Type 0
RunShownFits (On s) = ShownFits s
RunShownFits (Over e s) = ShownFits s

one_more : (s : State) (e : Event) → ShownFits s → EventFits e → Each EventFits (s.events ++ e ∷ [])
one_more s e shown it = each_append EventFits s.events (e ∷ []) shown (it, tt)

unless_shown : (o : Option FaultKind) (s : State) (r : Run) → ShownFits s → RunShownFits r → RunShownFits (unless o s r)
unless_shown None s r here there = there
unless_shown (Some kind) s r here there = here

load_shown : (s : State) (o : Option ConcreteValue) (r : RegId) (n : NodeId) → ShownFits s → OptionFits o → RunShownFits (gives_loaded o r n s)
load_shown s None r n shown it = shown
load_shown s (Some v) r n shown it = one_more s (Loaded s.frame.func s.frame.node v) shown it

return_shown : (p : ProgramData) (fs : List Frame) (v : Option ConcreteValue) (s : State) → ShownFits s → OptionFits v → RunShownFits (returns p v fs s)
return_shown p [] v s shown it = shown
return_shown p (g ∷ gs) v s shown it = one_more s (Returned v) shown it

attempt_shown : (p : ProgramData) (input : List ℕ) (n : Node) (s : State) → AllFits p input n s → ShownFits s → RunShownFits (attempt p input n s)
attempt_shown p input (node.Bin op a b result next) s it shown =
    unless_shown (division_fault op (number_in s a) (number_in s b)) s (gives result (Int (applied op (number_in s a) (number_in s b))) next s) shown shown
attempt_shown p input (node.Malloc size result next) s it shown =
    elim (nat_lt 65536 (number_in s size).bits) as (λ t. RunShownFits (if t then gives_if result (Ptr null) next s else gives_if result (new_here s) next (allocated (number_in s size).bits s))) [
      | true ↦ shown
      | false ↦ shown
    ]
attempt_shown p input (node.Free pointer next) s it shown =
    let a : Address = address_in s pointer in
    unless_shown (free_fault p s.history a) s (to next (with_history (freed_in a s.history) s)) shown shown
attempt_shown p input (node.Load pointer result next) s it shown =
    let t : RegType = type_at p s.frame.func result in
    let a : Address = address_in s pointer in
    let typed = and_parts (has (regs_of (func_at p s.frame.func)) pointer type.Ptr) (is_scalar t) it.ready.node in
    unless_shown (access_fault p s.history (bytes_of_type t) a) s (gives_loaded (loaded p s.history a t) result next s) shown
    (load_shown s (loaded p s.history a t) result next shown
    (loaded_fits p s.history a t it.whole it.numbers it.fitting.bytes (type_width p s.frame result it.whole) typed.1))
attempt_shown p input (node.Store value pointer next) s it shown =
    let v : ConcreteValue = value_in s.frame value in
    let a : Address = address_in s pointer in
    unless_shown (access_fault p s.history (bytes_of_value v) a) s (to next (with_history (stored_in (bytes_of_value v) 0 a v s.history) s)) shown shown
attempt_shown p input (node.Copy from there next) s it shown =
    let a : Address = address_in s from in
    let b : Address = address_in s there in
    let r : Run = to next (with_history (written_in b (byte_there p s.history a 0) 0 s.history) s) in
    unless_shown (access_fault p s.history 1 a) s (unless (access_fault p s.history 1 b) s r) shown (unless_shown (access_fault p s.history 1 b) s r shown shown)
attempt_shown p input (node.Call callee args result next) s it shown = one_more s (Entered s.frame.func s.frame.node callee) shown tt
attempt_shown p input (node.Branch condition first second) s it shown =
    elim ((number_in s condition).bits == 1) as (λ t. RunShownFits (if t then branches 0 first s else branches 1 second s)) [
      | true ↦ one_more s (Branched s.frame.func s.frame.node 0) shown tt
      | false ↦ one_more s (Branched s.frame.func s.frame.node 1) shown tt
    ]
attempt_shown p input (node.Switch value cases otherwise) s it shown =
    one_more s (Branched s.frame.func s.frame.node (case_of (number_in s value).bits 0 cases otherwise).0) shown tt
attempt_shown p input (node.Ret value) s it shown =
    return_shown p s.callers (option_map (value_in s.frame) value) (ended p s) shown (given_fits s.frame value it.fitting.frame it.operands)
attempt_shown p input _ s it shown = shown

run_shown : (p : ProgramData) (input : List ℕ) (n : ℕ) → IsWhole p → IsChecked p.funcs → NumbersFit p → All (λ b. b < 256) input → RunShownFits (run p input n)
run_shown p input zero whole checked numbers bytes = rw (run-zero p input) tt
run_shown p input (suc n) whole checked numbers bytes =
    rw (run-suc p input n) (more (run p input n) (run_typed p input n checked) (run_fits p input n whole checked numbers bytes) (run_shown p input n whole checked numbers bytes))
  where
    more : (r : Run) → RunIsTyped p r → RunIsFitting r → RunShownFits r → RunShownFits (goes_on p input r)
    more (On s) typed fitting shown =
        rw (step-attempt p input s) (attempt_shown p input (node_at p s.frame.func s.frame.node) (with_frame (counted s.frame) s)
        (fits_for p input s whole checked numbers bytes typed fitting) shown)
    more (Over e s) typed fitting shown = shown

pub trace_fits : TracesFit
trace_fits p input n whole checked numbers bytes = of_run (run p input n) (run_shown p input n whole checked numbers bytes)
  where
    of_run : (r : Run) → RunShownFits r → Each EventFits (state_of r).events
    of_run (On s) shown = shown
    of_run (Over e s) shown = shown
