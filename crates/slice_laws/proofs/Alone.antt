-- A call in a run is the call alone.
use Rattle.std.specs.Prelude.{reverse}
use Rattle.std.specs.Option.{option_map}
use Rattle.std.proofs.Common.{◌≡◌, ◌≤◌, ◌∙◌, ◌⊎◌, ⊎_elim, inl, inr, ℕ, zero, suc, true, List, [], ◌∷◌, ◌++◌, length, Option, Some, None, refl, sym, ap, subst, arith, append_assoc}
use Rattle.flat_ir.specs.declared.names.CallStep.{CallStep}
use Rattle.flat_ir.specs.declared.names.FuncId.{FuncId}
use Rattle.flat_ir.specs.declared.names.Location.{Location}
use Rattle.flat_ir.specs.declared.names.ObjectName.{ObjectName}
use Rattle.flat_ir.specs.declared.nodes.Node.{Node}
use Rattle.flat_ir.specs.declared.nodes.Node.TheVariants as node
use Rattle.flat_ir.specs.declared.nodes.Operand.{Operand}
use Rattle.flat_ir.specs.declared.program.ProgramData.{ProgramData}
use Rattle.flat_ir.specs.declared.values.ConcreteValue.{ConcreteValue}
use Rattle.flat_ir.specs.History.{History}
use Rattle.flat_ir.specs.Machine.{Event, Frame, State, Run, On, Over, state_of, func_at, nodes_of, node_at, value_in, counted, entered}
use Rattle.flat_ir.specs.Steps.{attempt, ended, resumed, frees_from, address_in}
use Rattle.flat_ir.specs.Run.{step, step-attempt}
use Rattle.flat_ir.specs.Whole.{IsWhole, operands_of}
use Rattle.points_to.specs.Within.{IsWithin}
use Rattle.mod_ref.specs.Calls.{Leads, none, more}
use Rattle.slices.specs.Nodes.{used_alive}
use Rattle.slices.specs.Slice.{Items, Need, IsSlice}
use Rattle.slices.specs.Nexts.{Ways, AreNexts}
use Rattle.slice_laws.specs.ResidualRun.{whole, Runs, Ends, lifted, executes, call_goes_on, call_run, called}
use Rattle.slice_laws.specs.Simulation.{Agree}
use Rattle.slice_laws.specs.CallsInRuns.{IsCall, EndsAlone, IsSimulatedInRun}
use Rattle.slice_laws.proofs.Lists.{each_from, same_elements}
use Rattle.slice_laws.proofs.Likewise.{SameLife, SameBytes, SeesSame, likewise, RunsLikewise, attempt_likewise}
use Rattle.slice_laws.proofs.Following.{simulates}
use Rattle.slice_laws.proofs.Simulating.{state, plain_executes}

life_same : (p : ProgramData) (b : Option ObjectName) (h : History) → SameLife p b h h
life_same p None h = tt
life_same p (Some x) h = (refl, refl)

bytes_same : (p : ProgramData) (b : Option ObjectName) (h : History) → SameBytes p b h h
bytes_same p None h = tt
bytes_same p (Some x) h = λ k. refl

-- two states that differ in who waits and in what was shown
sees_same : (p : ProgramData) (x : Node) (frame : Frame) (callers callers' : List Frame) (h : History) (events events' : List Event) → SeesSame p x (state frame callers h events) (state frame callers' h events')
sees_same p x frame callers callers' h events events' = record {
  func = refl;
  node = refl;
  name = refl;
  count = refl;
  values = each_from (λ a. value_in frame a ≡ value_in frame a) (operands_of x) (λ a there. refl);
  lives = each_from (λ a. SameLife p (address_in (state frame callers h events) a).base h h) (used_alive x) (λ a there. life_same p (address_in (state frame callers h events) a).base h);
  bytes = λ a e. bytes_same p (address_in (state frame callers h events) a).base h;
  place = λ e. refl;
}

-- the call alone stands at the same place, with fewer frames that wait
record Beneath (p : ProgramData) (input : List ℕ) (from : State) (base : List Frame) (t : State) : Type 0 where
  steps : ℕ
  alone : State
  ran : call_run p input whole from steps ≡ Runs alone
  frame : t.frame ≡ alone.frame
  callers : t.callers ≡ alone.callers ++ base
  history : t.history ≡ alone.history
  added : History
  grew : alone.history ≡ added ++ from.history

-- it has ended, and the caller goes on
record Left (p : ProgramData) (input : List ℕ) (from : State) (caller : Frame) (rest : List Frame) (t : State) : Type 0 where
  steps : ℕ
  result : Option ConcreteValue
  alone : State
  ran : call_run p input whole from steps ≡ Ends result alone
  frame : t.frame ≡ resumed (node_at p caller.func caller.node) result caller
  callers : t.callers ≡ rest
  history : t.history ≡ alone.history
  added : History
  grew : alone.history ≡ added ++ from.history

abbrev Stands : ProgramData → List ℕ → State → Frame → List Frame → State → Type 0
Stands p input from caller rest t = Beneath p input from (caller ∷ rest) t ⊎ Left p input from caller rest t

longer : (from : State) (cs added h : History) → h ≡ added ++ from.history → cs ++ h ≡ (cs ++ added) ++ from.history
longer from cs added h e = ap (λ l. cs ++ l) e ∙ sym (append_assoc cs added from.history)

-- a node that is no call and no return
plain_beneath : (p : ProgramData) (input : List ℕ) (from : State) (base : List Frame) (frame : Frame) (waiting : List Frame) (h added : History) (events events' : List Event) (steps : ℕ) (u : State) (r' : Run)
    → RunsLikewise (state frame (waiting ++ base) h events) (state frame waiting h events') (On u) r' → h ≡ added ++ from.history → call_run p input whole from steps ≡ lifted r' → Beneath p input from base u
plain_beneath p input from base frame waiting h added events events' steps u (Over e t') like grew ran = absurd like
plain_beneath p input from base frame waiting h added events events' steps _ (On _) (likewise regs regs' next more' ev ev' same) grew ran =
    let e : regs' ≡ regs = same_elements regs' regs (λ k. same (record { 0 = k }) refl) in
    record {
      steps = steps;
      alone = _;
      ran = ran;
      frame = λ i. record frame { regs = sym e i; node = next };
      callers = refl;
      history = refl;
      added = more' ++ added;
      grew = longer from more' added h grew;
    }

-- a return
return_stands : (p : ProgramData) (input : List ℕ) (from : State) (caller : Frame) (rest : List Frame) (frame : Frame) (waiting : List Frame) (h added : History) (events events' : List Event) (steps : ℕ) (value : Option Operand)
    → h ≡ added ++ from.history → call_run p input whole from steps ≡ executes p input (node.Ret value) (state frame waiting h events')
    → Stands p input from caller rest (state_of (attempt p input (node.Ret value) (state frame (waiting ++ caller ∷ rest) h events)))
return_stands p input from caller rest frame [] h added events events' steps value grew ran =
    let frees = reverse (frees_from frame 0 (nodes_of (func_at p frame.func))) in
    inr (record {
      steps = steps;
      result = option_map (value_in frame) value;
      alone = ended p (state frame [] h events');
      ran = ran;
      frame = refl;
      callers = refl;
      history = refl;
      added = frees ++ added;
      grew = longer from frees added h grew;
    })
return_stands p input from caller rest frame (g ∷ gs) h added events events' steps value grew ran =
    let frees = reverse (frees_from frame 0 (nodes_of (func_at p frame.func))) in
    inl (record {
      steps = steps;
      alone = _;
      ran = ran;
      frame = refl;
      callers = refl;
      history = refl;
      added = frees ++ added;
      grew = longer from frees added h grew;
    })

node_stands : (p : ProgramData) (input : List ℕ) (from : State) (caller : Frame) (rest : List Frame) (frame : Frame) (waiting : List Frame) (h added : History) (events events' : List Event) (steps : ℕ) (x : Node) (u : State)
    → h ≡ added ++ from.history → call_run p input whole from steps ≡ executes p input x (state frame waiting h events') → attempt p input x (state frame (waiting ++ caller ∷ rest) h events) ≡ On u
    → Stands p input from caller rest u
node_stands p input from caller rest frame waiting h added events events' steps (node.Call callee args result next) u grew ran e =
    subst (λ (t : State). Stands p input from caller rest t) (ap state_of e)
    (inl (record { steps = steps; alone = _; ran = ran; frame = refl; callers = refl; history = refl; added = added; grew = grew }))
node_stands p input from caller rest frame waiting h added events events' steps (node.Ret value) u grew ran e =
    subst (λ (t : State). Stands p input from caller rest t) (ap state_of e) (return_stands p input from caller rest frame waiting h added events events' steps value grew ran)
node_stands p input from caller rest frame waiting h added events events' steps x u grew ran e =
    let s = state frame (waiting ++ caller ∷ rest) h events in
    let s' = state frame waiting h events' in
    inl (plain_beneath p input from (caller ∷ rest) frame waiting h added events events' steps u (attempt p input x s')
    (subst (λ (r : Run). RunsLikewise s s' r (attempt p input x s')) e (attempt_likewise p input x s s' refl (sees_same p x frame (waiting ++ caller ∷ rest) waiting h events events'))) grew
    (ran ∙ plain_executes p input x s' refl))

step_stands : (p : ProgramData) (input : List ℕ) (from : State) (caller : Frame) (rest : List Frame) (t u : State) → Beneath p input from (caller ∷ rest) t → step p input t ≡ On u → Stands p input from caller rest u
step_stands p input from caller rest t u b e =
    let a = b.alone in
    let is : t ≡ state a.frame (a.callers ++ caller ∷ rest) a.history t.events = λ i. record { frame = b.frame i; callers = b.callers i; history = b.history i; events = t.events } in
    let there = subst (λ (s : State). step p input s ≡ On u) is e in
    node_stands p input from caller rest (counted a.frame) a.callers a.history b.added t.events a.events (suc b.steps) (node_at p a.frame.func a.frame.node) u b.grew
    (ap (call_goes_on p input whole) b.ran) (sym (step-attempt p input (state a.frame (a.callers ++ caller ∷ rest) a.history t.events)) ∙ there)

leads_stands : (p : ProgramData) (input : List ℕ) (from : State) (caller : Frame) (rest : List Frame) (s t : State) → s.callers ≡ caller ∷ rest → Beneath p input from (caller ∷ rest) s → Leads p input (length s.callers) s t
    → Stands p input from caller rest t
leads_stands p input from caller rest s _ waits b none = inl b
leads_stands p input from caller rest s u waits b (more t _ before le e) =
    ⊎_elim (λ beneath. step_stands p input from caller rest t u beneath e)
    (λ gone. absurd (omega (arith, le, ap length waits, ap length gone.callers)))
    (leads_stands p input from caller rest s t waits b before)

length_more : {A : Type 0} (xs ys : List A) → length ys ≤ length (xs ++ ys)
length_more [] ys = omega arith
length_more (x ∷ xs) ys = omega (arith, length_more xs ys)

pub stands_alone : (p : ProgramData) (input : List ℕ) (f : FuncId) (args : List ConcreteValue) (name : List CallStep) (s u : State) → (call : IsCall p input f args name s u) → EndsAlone p input f args name s u call.caller call.rest
stands_alone p input f args name s u call =
    let from = called p f args name s.history in
    let begins : Beneath p input from (call.caller ∷ call.rest) s =
    record { steps = zero; alone = from; ran = refl; frame = call.entry; callers = call.callers; history = refl; added = []; grew = refl } in
    ⊎_elim (λ beneath. absurd (omega (arith, call.left, length_more beneath.alone.callers (call.caller ∷ call.rest), ap length beneath.callers, ap length call.callers)))
    (λ gone. record {
      result = gone.result;
      added = gone.added;
      returned = record { history = gone.history ∙ gone.grew; frame = gone.frame; callers = gone.callers };
      ends = record { steps = gone.steps; end = gone.alone; ran = gone.ran; history = gone.grew };
    })
    (leads_stands p input from call.caller call.rest s u call.callers begins call.leads)

pub simulates_in_runs : (p : ProgramData) (f : FuncId) (at' : Location) (items : Items) (ways : Ways) → IsWhole p → IsSlice p f at' items → AreNexts p items ways →
    (input : List ℕ) (args : List ConcreteValue) (name : List CallStep) (s u : State) (h' : History) → IsWithin p s → (call : IsCall p input f args name s u) →
    ((l : Location) → items (Need l) ≡ true → Agree p l s.history h') → IsSimulatedInRun p input ways at' (called p f args name h') s u call.caller call.rest
simulates_in_runs p f at' items ways program slice nexts input args name s u h' within call agree =
    let alone = stands_alone p input f args name s u call in
    let frame : IsWithin p (state (entered p f args name) s.callers s.history s.events) = subst (λ (fr : Frame). IsWithin p (state fr s.callers s.history s.events)) call.entry within in
    record {
      result = alone.result;
      added = alone.added;
      returned = alone.returned;
      simulated = simulates p f at' items ways program slice nexts input args name s.history h'
          (record { registers = frame.registers; waiting = tt; called = tt; bytes = frame.bytes }) agree alone.result alone.added alone.ends;
    }
