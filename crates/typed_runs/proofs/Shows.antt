-- Each run shows values of their types.
use Rattle.std.specs.Prelude.{nat_lt, ◌==◌, if◌then◌else◌}
use Rattle.std.specs.Option.{option_map}
use Rattle.std.proofs.Common.{◌≡◌, ℕ, zero, suc, true, false, List, [], ◌∷◌, ◌++◌, Option, Some, None, refl, sym, ◌∙◌, ap, subst}
use Rattle.bitnum.specs.Operations.{applied}
use Rattle.checks.specs.Errors.{IsChecked}
use Rattle.flat_ir.specs.declared.names.FuncId.{FuncId}
use Rattle.flat_ir.specs.declared.names.NodeId.{NodeId}
use Rattle.flat_ir.specs.declared.names.RegId.{RegId}
use Rattle.flat_ir.specs.declared.nodes.MoveSet.{MoveSet}
use Rattle.flat_ir.specs.declared.nodes.Node.{Node}
use Rattle.flat_ir.specs.declared.nodes.Node.TheVariants as node
use Rattle.flat_ir.specs.declared.nodes.Operand.{Operand}
use Rattle.flat_ir.specs.declared.nodes.RegType.{RegType}
use Rattle.flat_ir.specs.declared.program.ProgramData.{ProgramData}
use Rattle.flat_ir.specs.declared.values.Address.{Address}
use Rattle.flat_ir.specs.declared.values.ConcreteValue.{ConcreteValue}
use Rattle.flat_ir.specs.declared.values.ConcreteValue.TheVariants.{Int, Ptr}
use Rattle.flat_ir.specs.declared.values.FaultKind.{FaultKind}
use Rattle.flat_ir.specs.Registers.{null, first_of, bytes_of_type, bytes_of_value}
use Rattle.flat_ir.specs.Effects.{written_in, stored_in, freed_in}
use Rattle.flat_ir.specs.Machine.{Event, Branched, Loaded, Entered, Returned, Frame, State, Run, On, Over, state_of, func_at, node_at, type_at, value_in, counted, set, set_if, at_node}
use Rattle.flat_ir.specs.Steps.{attempt, unless, gives, gives_if, gives_loaded, to, with_frame, with_history, number_in, address_in, division_fault, access_fault, free_fault, new_here, allocated, loaded, byte_there, set_all, case_of, branches, returns, ended, call_next, call_result, set_result}
use Rattle.flat_ir.specs.Run.{step, run, goes_on, step-attempt, run-zero, run-suc}
use Rattle.typed_runs.specs.TypedRuns.{IsTyped, RunIsTyped}
use Rattle.typed_runs.specs.Shown.{IsGiven, IsLoadOf, ShowTypes}
use Rattle.typed_runs.specs.Suiting.{result_of}
use Rattle.typed_runs.specs.Laws.{TracesAreTyped}
use Rattle.typed_runs.proofs.Runs.{IsReady, ready_for, run_typed}
use Rattle.typed_runs.proofs.Values.{OptionHas, joined_has, given}

-- without the newest
abbrev rest_of : List FuncId → List FuncId
rest_of [] = []
rest_of (f ∷ fs) = fs

-- the calls that are unfinished behind events
abbrev begun_after : List FuncId → List Event → List FuncId
begun_after begun [] = begun
begun_after begun (Branched f n side ∷ t) = begun_after begun t
begun_after begun (Loaded f n v ∷ t) = begun_after begun t
begun_after begun (Entered caller n f ∷ t) = begun_after (f ∷ begun) t
begun_after begun (Returned v ∷ t) = begun_after (rest_of begun) t

begun_behind : (begun : List FuncId) (t : List Event) (e : Event) → begun_after begun (t ++ e ∷ []) ≡ begun_after (begun_after begun t) (e ∷ [])
begun_behind begun [] e = refl
begun_behind begun (Branched f n side ∷ t) e = begun_behind begun t e
begun_behind begun (Loaded f n v ∷ t) e = begun_behind begun t e
begun_behind begun (Entered caller n f ∷ t) e = begun_behind (f ∷ begun) t e
begun_behind begun (Returned v ∷ t) e = begun_behind (rest_of begun) t e

show_behind : (p : ProgramData) (begun : List FuncId) (t : List Event) (e : Event) → ShowTypes p begun t → ShowTypes p (begun_after begun t) (e ∷ []) → ShowTypes p begun (t ++ e ∷ [])
show_behind p begun [] e shown new = new
show_behind p begun (Branched f n side ∷ t) e shown new = show_behind p begun t e shown new
show_behind p begun (Loaded f n v ∷ t) e shown new = (shown.0, show_behind p begun t e shown.1 new)
show_behind p begun (Entered caller n f ∷ t) e shown new = show_behind p (f ∷ begun) t e shown new
show_behind p [] (Returned v ∷ t) e shown new = absurd shown
show_behind p (f ∷ begun) (Returned v ∷ t) e shown new = (shown.0, show_behind p begun t e shown.1 new)

-- the functions of the frames above main's
abbrev called : Frame → List Frame → List FuncId
called f [] = []
called f (g ∷ gs) = f.func ∷ called g gs

-- what was shown has its types, and the calls that are unfinished are those of the frames
record Shows (p : ProgramData) (f : Frame) (fs : List Frame) (t : List Event) : Type 0 where
  pub begun : begun_after [] t ≡ called f fs
  pub shown : ShowTypes p [] t

called_as : (f g : Frame) (fs : List Frame) → f.func ≡ g.func → called f fs ≡ called g fs
called_as f g [] e = refl
called_as f g (c ∷ cs) e = ap (λ (h : FuncId). h ∷ called c cs) e

shows_as : (p : ProgramData) (f g : Frame) (fs : List Frame) (t : List Event) → f.func ≡ g.func → Shows p f fs t → Shows p g fs t
shows_as p f g fs t e shows = record { begun = shows.begun ∙ called_as f g fs e; shown = shows.shown }

-- one event more
one_more : (p : ProgramData) (f g : Frame) (fs gs : List Frame) (t : List Event) (e : Event) → Shows p f fs t
    → ShowTypes p (called f fs) (e ∷ []) → begun_after (called f fs) (e ∷ []) ≡ called g gs → Shows p g gs (t ++ e ∷ [])
one_more p f g fs gs t e shows new begun = record {
  begun = begun_behind [] t e ∙ ap (λ o. begun_after o (e ∷ [])) shows.begun ∙ begun;
  shown = show_behind p [] t e shows.shown (subst (λ o. ShowTypes p o (e ∷ [])) (sym shows.begun) new);
}

-- what a run has shown
abbrev RunShows : ProgramData → Run → Type 0
RunShows p (On s) = Shows p s.frame s.callers s.events
RunShows p (Over e s) = Shows p s.frame s.callers s.events

abbrev StateShows : ProgramData → State → Type 0
StateShows p s = Shows p s.frame s.callers s.events

unless_shows : (p : ProgramData) (o : Option FaultKind) (s : State) (r : Run) → StateShows p s → RunShows p r → RunShows p (unless o s r)
unless_shows p None s r here there = there
unless_shows p (Some kind) s r here there = here

-- the frame of the same function
stays : (p : ProgramData) (s : State) (g : Frame) → s.frame.func ≡ g.func → StateShows p s → Shows p g s.callers s.events
stays p s g e shows = shows_as p s.frame g s.callers s.events e shows

func_of_set : (r : Option RegId) (v : ConcreteValue) (n : NodeId) (f : Frame) → f.func ≡ (at_node n (set_if r v f)).func
func_of_set None v n f = refl
func_of_set (Some r) v n f = refl

func_of_moves : (old : Frame) (ms : List MoveSet) (n : NodeId) (f : Frame) → f.func ≡ (at_node n (set_all old ms f)).func
func_of_moves old [] n f = refl
func_of_moves old (m ∷ ms) n f = func_of_moves old ms n (set m.register (value_in old m.value) f)

func_of_result : (r : Option RegId) (v : Option ConcreteValue) (n : NodeId) (f : Frame) → f.func ≡ (at_node n (set_result r v f)).func
func_of_result r None n f = refl
func_of_result None (Some v) n f = refl
func_of_result (Some r) (Some v) n f = refl

-- a side that is taken
branch_shows : (p : ProgramData) (s : State) (side : ℕ) (n : NodeId) → StateShows p s → RunShows p (branches side n s)
branch_shows p s side n shows =
    one_more p s.frame (at_node n s.frame) s.callers s.callers s.events (Branched s.frame.func s.frame.node side) shows tt (called_as s.frame (at_node n s.frame) s.callers refl)

-- a value, if there is one, that the state's node may load
abbrev OptionLoads : ProgramData → State → Option ConcreteValue → Type 0
OptionLoads p s None = Unit {0}
OptionLoads p s (Some v) = IsLoadOf p s.frame.func (node_at p s.frame.func s.frame.node) v

loads_of : (p : ProgramData) (s : State) (pointer : Operand) (r : RegId) (n : NodeId) (o : Option ConcreteValue) → node_at p s.frame.func s.frame.node ≡ node.Load pointer r n
    → OptionHas (type_at p s.frame.func r) o → OptionLoads p s o
loads_of p s pointer r n None at it = tt
loads_of p s pointer r n (Some v) at it = subst (λ (m : Node). IsLoadOf p s.frame.func m v) (sym at) it

-- a load
load_shows : (p : ProgramData) (s : State) (o : Option ConcreteValue) (r : RegId) (n : NodeId) → StateShows p s
    → OptionLoads p s o → RunShows p (gives_loaded o r n s)
load_shows p s None r n shows it = shows
load_shows p s (Some v) r n shows it =
    let g : Frame = at_node n (set r v s.frame) in
    one_more p s.frame g s.callers s.callers s.events (Loaded s.frame.func s.frame.node v) shows (it, tt) (called_as s.frame g s.callers refl)

-- a return
return_shows : (p : ProgramData) (f : Frame) (fs : List Frame) (v : Option ConcreteValue) (s : State) → StateShows p s → s.frame ≡ f → s.callers ≡ fs
    → IsGiven (result_of (func_at p f.func)) v → RunShows p (returns p v fs s)
return_shows p f [] v s shows here there is = shows
return_shows p f (g ∷ gs) v s shows here there is =
    let call : Node = node_at p g.func g.node in
    let h : Frame = at_node (call_next call) (set_result (call_result call) v g) in
    let K : Frame → List Frame → Type 0 = λ a as'. Shows p a as' s.events in
    let at : Shows p f (g ∷ gs) s.events = subst (λ (a : Frame). K a (g ∷ gs)) here (subst (λ (as' : List Frame). K s.frame as') there shows) in
    one_more p f h (g ∷ gs) gs s.events (Returned v) at (is, tt) (called_as g h gs (func_of_result (call_result call) v (call_next call) g))

-- what executing a node shows
attempt_shows : (p : ProgramData) (input : List ℕ) (n : Node) (s : State) → IsReady p n s → StateShows p s → RunShows p (attempt p input n s)
attempt_shows p input (node.Bin op a b result next) s ready shows =
    unless_shows p (division_fault op (number_in s a) (number_in s b)) s (gives result (Int (applied op (number_in s a) (number_in s b))) next s) shows
    (stays p s (at_node next (set result (Int (applied op (number_in s a) (number_in s b))) s.frame)) refl shows)
attempt_shows p input (node.Cmp pr a b result next) s ready shows = shows_as p s.frame _ s.callers s.events refl shows
attempt_shows p input (node.Cast op a result next) s ready shows = shows_as p s.frame _ s.callers s.events refl shows
attempt_shows p input (node.Gep base parts result next) s ready shows = shows_as p s.frame _ s.callers s.events refl shows
attempt_shows p input (node.Select condition a b result next) s ready shows = shows_as p s.frame _ s.callers s.events refl shows
attempt_shows p input (node.Alloca size result next) s ready shows = shows_as p s.frame _ s.callers s.events refl shows
attempt_shows p input (node.Malloc size result next) s ready shows =
    elim (nat_lt 65536 (number_in s size).bits) as (λ t. RunShows p (if t then gives_if result (Ptr null) next s else gives_if result (new_here s) next (allocated (number_in s size).bits s))) [
      | true ↦ stays p s (at_node next (set_if result (Ptr null) s.frame)) (func_of_set result (Ptr null) next s.frame) shows
      | false ↦ stays p s (at_node next (set_if result (new_here s) s.frame)) (func_of_set result (new_here s) next s.frame) shows
    ]
attempt_shows p input (node.Free pointer next) s ready shows =
    let a : Address = address_in s pointer in
    unless_shows p (free_fault p s.history a) s (to next (with_history (freed_in a s.history) s)) shows (stays p s (at_node next s.frame) refl shows)
attempt_shows p input (node.Load pointer result next) s ready shows =
    let t : RegType = type_at p s.frame.func result in
    let a : Address = address_in s pointer in
    unless_shows p (access_fault p s.history (bytes_of_type t) a) s (gives_loaded (loaded p s.history a t) result next s) shows
    (load_shows p s (loaded p s.history a t) result next shows
    (loads_of p s pointer result next (loaded p s.history a t) ready.at (joined_has t (first_of (bytes_of_type t) 0 (byte_there p s.history a)))))
attempt_shows p input (node.Store value pointer next) s ready shows =
    let v : ConcreteValue = value_in s.frame value in
    let a : Address = address_in s pointer in
    unless_shows p (access_fault p s.history (bytes_of_value v) a) s (to next (with_history (stored_in (bytes_of_value v) 0 a v s.history) s)) shows
    (stays p s (at_node next s.frame) refl shows)
attempt_shows p input (node.Copy from there next) s ready shows =
    let a : Address = address_in s from in
    let b : Address = address_in s there in
    let r : Run = to next (with_history (written_in b (byte_there p s.history a 0) 0 s.history) s) in
    unless_shows p (access_fault p s.history 1 a) s (unless (access_fault p s.history 1 b) s r) shows
    (unless_shows p (access_fault p s.history 1 b) s r shows (stays p s (at_node next s.frame) refl shows))
attempt_shows p input (node.In result next) s ready shows = shows_as p s.frame _ s.callers s.events refl shows
attempt_shows p input (node.Put value next) s ready shows = shows_as p s.frame _ s.callers s.events refl shows
attempt_shows p input (node.Call callee args result next) s ready shows = one_more p s.frame _ s.callers (s.frame ∷ s.callers) s.events (Entered s.frame.func s.frame.node callee) shows tt refl
attempt_shows p input (node.Moves ms next) s ready shows = stays p s (at_node next (set_all s.frame ms s.frame)) (func_of_moves s.frame ms next s.frame) shows
attempt_shows p input (node.Jump next) s ready shows = stays p s (at_node next s.frame) refl shows
attempt_shows p input (node.Branch condition first second) s ready shows =
    elim ((number_in s condition).bits == 1) as (λ t. RunShows p (if t then branches 0 first s else branches 1 second s)) [
      | true ↦ branch_shows p s 0 first shows
      | false ↦ branch_shows p s 1 second shows
    ]
attempt_shows p input (node.Switch value cases otherwise) s ready shows =
    let side = case_of (number_in s value).bits 0 cases otherwise in
    branch_shows p s side.0 side.1 shows
attempt_shows p input (node.Ret value) s ready shows =
    return_shows p s.frame s.callers (option_map (value_in s.frame) value) (ended p s) shows refl refl
    (given p s.frame value (result_of (func_at p s.frame.func)) ready.typed.frame ready.node)
attempt_shows p input (node.Exit status) s ready shows = shows
attempt_shows p input node.Abort s ready shows = shows
attempt_shows p input (node.Assert args) s ready shows = shows
attempt_shows p input node.Unreachable s ready shows = shows

step_shows : (p : ProgramData) (input : List ℕ) (s : State) → IsChecked p.funcs → IsTyped p s → StateShows p s → RunShows p (step p input s)
step_shows p input s checked typed shows =
    rw (step-attempt p input s) (attempt_shows p input (node_at p s.frame.func s.frame.node) (with_frame (counted s.frame) s) (ready_for p s checked typed)
    (stays p s (counted s.frame) refl shows))

run_shows : (p : ProgramData) (input : List ℕ) (n : ℕ) → IsChecked p.funcs → RunShows p (run p input n)
run_shows p input zero checked = rw (run-zero p input) (record { begun = refl; shown = tt })
run_shows p input (suc n) checked = rw (run-suc p input n) (more (run p input n) (run_typed p input n checked) (run_shows p input n checked))
  where
    more : (r : Run) → RunIsTyped p r → RunShows p r → RunShows p (goes_on p input r)
    more (On s) typed shows = step_shows p input s checked typed shows
    more (Over e s) typed shows = shows

pub trace_typed : TracesAreTyped
trace_typed p input n checked = of_run (run p input n) (run_shows p input n checked)
  where
    of_run : (r : Run) → RunShows p r → ShowTypes p [] (state_of r).events
    of_run (On s) shows = shows.shown
    of_run (Over e s) shows = shows.shown
