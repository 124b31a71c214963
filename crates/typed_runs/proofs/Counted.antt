-- Each node is executed at most once a step.
use Rattle.std.specs.Prelude.{◌≤◌, map, nat_lt, ◌==◌, if◌then◌else◌}
use Rattle.std.specs.Option.{option_map}
use Rattle.std.proofs.Common.{ℕ, zero, suc, ◌+◌, true, false, List, [], ◌∷◌, Option, Some, None, arith}
use Rattle.std.specs.List.{AllByRecursion as Each}
use Rattle.bitnum.specs.Operations.{applied}
use Rattle.flat_ir.specs.declared.names.NodeId.{NodeId}
use Rattle.flat_ir.specs.declared.names.RegId.{RegId}
use Rattle.flat_ir.specs.declared.nodes.MoveSet.{MoveSet}
use Rattle.flat_ir.specs.declared.nodes.Node.{Node}
use Rattle.flat_ir.specs.declared.nodes.Node.TheVariants as node
use Rattle.flat_ir.specs.declared.program.ProgramData.{ProgramData}
use Rattle.flat_ir.specs.declared.values.ConcreteValue.{ConcreteValue}
use Rattle.flat_ir.specs.declared.values.ConcreteValue.TheVariants.{Int, Ptr}
use Rattle.flat_ir.specs.declared.values.FaultKind.{FaultKind}
use Rattle.flat_ir.specs.Effects.{written_in, stored_in, freed_in}
use Rattle.flat_ir.specs.Registers.{null, bytes_of_type, bytes_of_value}
use Rattle.flat_ir.specs.Machine.{Frame, State, Run, On, Over, func_at, nodes_of, node_at, type_at, value_in, count_here, counted, set, set_if, at_node}
use Rattle.flat_ir.specs.Steps.{attempt, unless, gives, gives_if, gives_loaded, to, with_frame, with_history, number_in, address_in, division_fault, access_fault, free_fault, new_here, allocated, loaded, byte_there, set_all, branches, returns, ended, call_next, call_result, set_result}
use Rattle.flat_ir.specs.Run.{run, goes_on, step-attempt, run-zero, run-suc}
use Rattle.flat_ir.proofs.MadeBasics.{each_map, each_read, each_set}
use Rattle.typed_runs.specs.Counting.{CountsTo, StateCountsTo, RunCountsTo}
use Rattle.typed_runs.specs.Laws.{RunsCount, StepsCount}

unless_counts : (n : ℕ) (o : Option FaultKind) (s : State) (r : Run) → RunCountsTo n r → RunCountsTo n (unless o s r)
unless_counts n None s r counts = counts
unless_counts n (Some kind) s r counts = tt

-- what changes registers alone
sets_count : (n : ℕ) (f : Frame) (r : Option RegId) (v : ConcreteValue) (next : NodeId) → CountsTo n f → CountsTo n (at_node next (set_if r v f))
sets_count n f None v next counts = counts
sets_count n f (Some r) v next counts = counts

moves_count : (n : ℕ) (old f : Frame) (ms : List MoveSet) (next : NodeId) → CountsTo n f → CountsTo n (at_node next (set_all old ms f))
moves_count n old f [] next counts = counts
moves_count n old f (m ∷ ms) next counts = moves_count n old (set m.register (value_in old m.value) f) ms next counts

results_count : (n : ℕ) (f : Frame) (r : Option RegId) (v : Option ConcreteValue) (next : NodeId) → CountsTo n f → CountsTo n (at_node next (set_result r v f))
results_count n f r None next counts = counts
results_count n f None (Some v) next counts = counts
results_count n f (Some r) (Some v) next counts = counts

loads_count : (n : ℕ) (o : Option ConcreteValue) (r : RegId) (next : NodeId) (s : State) → StateCountsTo n s → RunCountsTo n (gives_loaded o r next s)
loads_count n None r next s counts = tt
loads_count n (Some v) r next s counts = counts

returns_count : (p : ProgramData) (n : ℕ) (v : Option ConcreteValue) (fs : List Frame) (s : State) → Each (CountsTo n) fs → RunCountsTo n (returns p v fs s)
returns_count p n v [] s counts = tt
returns_count p n v (g ∷ gs) s counts =
    let call = node_at p g.func g.node in
    (results_count n g (call_result call) v (call_next call) counts.0, counts.1)

-- a frame that was made has executed nothing
none_count : {A : Type 0} (n : ℕ) (xs : List A) → Each (λ k. k ≤ n) (map (λ x. 0) xs)
none_count n [] = tt
none_count n (x ∷ xs) = (omega arith, none_count n xs)

attempt_counts : (p : ProgramData) (input : List ℕ) (n : ℕ) (kind : Node) (s : State) → StateCountsTo n s → RunCountsTo n (attempt p input kind s)
attempt_counts p input n (node.Bin op a b result next) s counts =
    unless_counts n (division_fault op (number_in s a) (number_in s b)) s (gives result (Int (applied op (number_in s a) (number_in s b))) next s) counts
attempt_counts p input n (node.Cmp pr a b result next) s counts = counts
attempt_counts p input n (node.Cast op a result next) s counts = counts
attempt_counts p input n (node.Gep base parts result next) s counts = counts
attempt_counts p input n (node.Select condition a b result next) s counts = counts
attempt_counts p input n (node.Alloca size result next) s counts = counts
attempt_counts p input n (node.Malloc size result next) s counts =
    elim (nat_lt 65536 (number_in s size).bits) as (λ t. RunCountsTo n (if t then gives_if result (Ptr null) next s else gives_if result (new_here s) next (allocated (number_in s size).bits s))) [
      | true ↦ (sets_count n s.frame result (Ptr null) next counts.0, counts.1)
      | false ↦ (sets_count n s.frame result (new_here s) next counts.0, counts.1)
    ]
attempt_counts p input n (node.Free pointer next) s counts =
    let a = address_in s pointer in
    unless_counts n (free_fault p s.history a) s (to next (with_history (freed_in a s.history) s)) counts
attempt_counts p input n (node.Load pointer result next) s counts =
    let t = type_at p s.frame.func result in
    let a = address_in s pointer in
    unless_counts n (access_fault p s.history (bytes_of_type t) a) s (gives_loaded (loaded p s.history a t) result next s)
    (loads_count n (loaded p s.history a t) result next s counts)
attempt_counts p input n (node.Store value pointer next) s counts =
    let v = value_in s.frame value in
    let a = address_in s pointer in
    unless_counts n (access_fault p s.history (bytes_of_value v) a) s (to next (with_history (stored_in (bytes_of_value v) 0 a v s.history) s)) counts
attempt_counts p input n (node.Copy from there next) s counts =
    let a = address_in s from in
    let b = address_in s there in
    let r = to next (with_history (written_in b (byte_there p s.history a 0) 0 s.history) s) in
    unless_counts n (access_fault p s.history 1 a) s (unless (access_fault p s.history 1 b) s r) (unless_counts n (access_fault p s.history 1 b) s r counts)
attempt_counts p input n (node.In result next) s counts = counts
attempt_counts p input n (node.Put value next) s counts = counts
attempt_counts p input n (node.Call callee args result next) s counts = (none_count n (nodes_of (func_at p callee)), counts)
attempt_counts p input n (node.Moves ms next) s counts = (moves_count n s.frame s.frame ms next counts.0, counts.1)
attempt_counts p input n (node.Jump next) s counts = counts
attempt_counts p input n (node.Branch condition first second) s counts =
    elim ((number_in s condition).bits == 1) as (λ t. RunCountsTo n (if t then branches 0 first s else branches 1 second s)) [ true ↦ counts | false ↦ counts ]
attempt_counts p input n (node.Switch value cases otherwise) s counts = counts
attempt_counts p input n (node.Ret value) s counts = returns_count p n (option_map (value_in s.frame) value) s.callers (ended p s) counts.1
attempt_counts p input n (node.Exit status) s counts = tt
attempt_counts p input n node.Abort s counts = tt
attempt_counts p input n (node.Assert args) s counts = tt
attempt_counts p input n node.Unreachable s counts = tt

-- the node that is executed is counted once more
later : (n : ℕ) (counts : List ℕ) → Each (λ k. k ≤ n) counts → Each (λ k. k ≤ suc n) counts
later n counts all = each_map (λ k. k ≤ n) (λ k. k ≤ suc n) (λ k less. omega (arith, less)) counts all

begins_count : (n : ℕ) (f : Frame) → CountsTo n f → CountsTo (suc n) (counted f)
begins_count n f counts =
    let here = each_read (λ k. k ≤ n) f.counts f.node.0 0 counts (omega arith) in
    each_set (λ k. k ≤ suc n) f.counts f.node.0 (count_here f + 1) (later n f.counts counts) (omega (arith, here))

pub step_counts : StepsCount
step_counts p input n s counts =
    rw (step-attempt p input s) (attempt_counts p input (suc n) (node_at p s.frame.func s.frame.node) (with_frame (counted s.frame) s)
    (begins_count n s.frame counts.0, each_map (CountsTo n) (CountsTo (suc n)) (λ g all. later n g.counts all) s.callers counts.1))

pub run_counts : RunsCount
run_counts p input zero = rw (run-zero p input) (none_count 0 (nodes_of (func_at p p.main)), tt)
run_counts p input (suc n) = rw (run-suc p input n) (more (run p input n) (run_counts p input n))
  where
    more : (r : Run) → RunCountsTo n r → RunCountsTo (suc n) (goes_on p input r)
    more (On s) counts = step_counts p input n s counts
    more (Over e s) counts = tt
