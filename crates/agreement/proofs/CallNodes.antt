-- Calls, returns, ends of the program and faults that need no test go along with the run.
use Rattle.std.proofs.Common.{◌≡◌, ℕ, zero, suc, ◌+◌, ◌%◌, true, false, List, [], ◌∷◌, ◌++◌, map, drop, length, reverse, slice_set, Option, Some, None, unwrap_or, refl, sym, ◌∙◌, ap, subst}
use Rattle.indexmap.proofs.ReorderLemmas.{map-reverse}
use Rattle.std.specs.Prelude.{slice_get}
use Rattle.std.specs.Option.{option_map, option_to_list}
use Rattle.std.specs.List.{AllByRecursion as Each}
use Rattle.std.proofs.lemmas.List.{map-append}
use Rattle.std.proofs.lemmas.Option.{none-some}
use Rattle.bitnum.specs.Number.{Number}
use Rattle.flat_ir.specs.declared.names.CallStep.{CallStep}
use Rattle.flat_ir.specs.declared.names.FuncId.{FuncId}
use Rattle.flat_ir.specs.declared.names.NodeId.{NodeId}
use Rattle.flat_ir.specs.declared.names.RegId.{RegId}
use Rattle.flat_ir.specs.declared.names.ObjectName.{ObjectName}
use Rattle.flat_ir.specs.declared.names.ObjectName.TheVariants as object
use Rattle.flat_ir.specs.declared.nodes.Node.{Node}
use Rattle.flat_ir.specs.declared.nodes.Node.TheVariants as node
use Rattle.flat_ir.specs.declared.nodes.Operand.{Operand}
use Rattle.flat_ir.specs.declared.nodes.RegType.{RegType}
use Rattle.flat_ir.specs.declared.program.ProgramData.{ProgramData}
use Rattle.flat_ir.specs.declared.values.ConcreteValue.{ConcreteValue}
use Rattle.flat_ir.specs.declared.values.FaultKind.TheVariants as fault
use Rattle.flat_ir.specs.History as history
use Rattle.flat_ir.specs.History.{History, Free}
use Rattle.flat_ir.specs.Machine as machine
use Rattle.flat_ir.specs.Machine.{Event, Branched, Loaded, Entered, Returned, Exited, node_at, nodes_of, func_at, regs_of}
use Rattle.flat_ir.specs.Registers as registers
use Rattle.flat_ir.specs.Registers.{zero_of}
use Rattle.flat_ir.specs.Run.{step, step-attempt}
use Rattle.flat_ir.specs.Skipped.{outside}
use Rattle.flat_ir.specs.Steps as steps
use Rattle.flat_ir.specs.Steps.{with_frame, call_result, call_next, set_result}
use Rattle.flat_ir.specs.Whole.{operands_of, successors_of}
use Rattle.sym_bytes.specs.Answers as want
use Rattle.sym_bytes.specs.Entry as entry
use Rattle.sym_bytes.specs.Under.{bits_under, value_under}
use Rattle.sym_bytes.specs.Value.{SymValue}
use Rattle.log_laws.specs.Logs.{Log, Did, output}
use Rattle.log_laws.specs.Standing.{StandsFor}
use Rattle.log_laws.proofs.Fills.{output_law}
use Rattle.sym_states.specs.declared.frames.Target.{Target}
use Rattle.sym_states.specs.Attempts.{firm, fails, enters, skips, frees_of_node, frees_at, frees_from, ended, completed, completes, leaves_to, is_main_end, resumed, exits, executes}
use Rattle.sym_states.specs.States.{Frame, State, code_of, node_of, in_frame, counted, set_if, moved, entered, then_step, name_below}
use Rattle.sym_states.specs.Terms.{value_in, term_in, status_of}
use Rattle.state_laws.specs.Kept.{OperandsFit}
use Rattle.state_laws.proofs.FirmLogs.{need-none}
use Rattle.state_laws.proofs.FirmValues.{value_in-firm}
use Rattle.state_laws.proofs.States.{number_in-fits}
use Rattle.typed_runs.specs.TypedRuns.{IsCallOf}
use Rattle.agreement.specs.Agreement.{RegsAgree, FrameAgrees, FramesAgree}
use Rattle.agreement.specs.Premises.{none_gave, WaitAtCalls}
use Rattle.agreement.proofs.Along.{Scene, IsHere, IsGiven, AnswerGoesAlong, alike, agreed, goes-along, ends-along, fails-along, fault-along, firm-first, knows-first, operand-along, value-counted, regs-set, counts-done}
use Rattle.agreement.proofs.Here.{given-here, fits-here, step-here}
use Rattle.agreement.proofs.SetEnds.{place_is}
use Rattle.agreement.proofs.Sets.{none-skipped}
use Rattle.agreement.proofs.Starts.{unset-agree}
use Rattle.agreement.proofs.Values.{number-under, bits-low_byte}

-- what the node's attempt makes of the moment
does : (e : Scene) (m : machine.State) (x : Node) → node_at e.c.program m.frame.func m.frame.node ≡ x → step e.c.program e.input m ≡ steps.attempt e.c.program e.input x (with_frame (machine.counted m.frame) m)
does e m x code = step-attempt e.c.program e.input m ∙ ap (λ n. steps.attempt e.c.program e.input n (with_frame (machine.counted m.frame) m)) code

-- ---- faults

pub abort-along : (e : Scene) (k : ℕ) (m : machine.State) (s : State) → IsHere e k m s → node_at e.c.program m.frame.func m.frame.node ≡ node.Abort → AnswerGoesAlong e (executes e.c node.Abort s)
abort-along e k m s h code = fails-along e k m s fault.Abort h (fault-along e m node.Abort fault.Abort code refl)

pub assert-along : (e : Scene) (k : ℕ) (m : machine.State) (s : State) (args : List Operand) → IsHere e k m s → node_at e.c.program m.frame.func m.frame.node ≡ node.Assert args → AnswerGoesAlong e (executes e.c (node.Assert args) s)
assert-along e k m s args h code = firm-first e k m s args (fails fault.Assert) h (fails-along e k m s fault.Assert h (fault-along e m (node.Assert args) fault.Assert code refl))

pub unreachable-along : (e : Scene) (k : ℕ) (m : machine.State) (s : State) → IsHere e k m s → node_at e.c.program m.frame.func m.frame.node ≡ node.Unreachable → AnswerGoesAlong e (executes e.c node.Unreachable s)
unreachable-along e k m s h code = fails-along e k m s fault.Unreachable h (fault-along e m node.Unreachable fault.Unreachable code refl)

-- ---- what the program returns

-- a value is returned on both sides, or none
abbrev ReturnAgrees : List ℕ → Option SymValue → Option ConcreteValue → Type 0
ReturnAgrees input None None = Unit {0}
ReturnAgrees input None (Some w) = ⊥
ReturnAgrees input (Some v) None = ⊥
ReturnAgrees input (Some v) (Some w) = w ≡ value_under input [] v

operand-counted : (e : Scene) (k : ℕ) (m : machine.State) (s : State) (a : Operand) → IsHere e k m s → IsGiven s a → machine.value_in (machine.counted m.frame) a ≡ value_under e.input [] (value_in s a)
operand-counted e k m s a h given = value-counted m.frame a ∙ operand-along e k m s a h given

-- the low byte of an operand
byte-along : (e : Scene) (k : ℕ) (m : machine.State) (s : State) (x : Node) (a : Operand) (more : List Operand) → IsHere e k m s → node_at e.c.program m.frame.func m.frame.node ≡ x → operands_of x ≡ a ∷ more
    → (registers.number (machine.value_in (machine.counted m.frame) a)).bits % 256 ≡ bits_under e.input (status_of (Some (value_in s a)))
byte-along e k m s x a more h code operands =
    let given = (subst (Each (IsGiven s)) operands (given-here e k m s x h code)).0 in
    let fits = (subst OperandsFit operands (fits-here e k m s x h code).operands).0 in
    ap (λ (w : ConcreteValue). (registers.number w).bits % 256) (operand-counted e k m s a h given)
    ∙ ap (λ (n : Number). n.bits % 256) (number-under e.input (value_in s a) (value_in-firm s a h.state.no_calls))
    ∙ sym (bits-low_byte (length e.input) (term_in (value_in s a)) e.input (number_in-fits (length e.input) s a h.state.fits fits))

status-along : (e : Scene) (k : ℕ) (m : machine.State) (s : State) (value : Option Operand) → IsHere e k m s → node_at e.c.program m.frame.func m.frame.node ≡ node.Ret value
    → steps.low_byte (option_map (machine.value_in (machine.counted m.frame)) value) ≡ bits_under e.input (status_of (option_map (value_in s) value))
status-along e k m s None h code = refl
status-along e k m s (Some a) h code = byte-along e k m s (node.Ret (Some a)) a [] h code refl

return-along : (e : Scene) (k : ℕ) (m : machine.State) (s : State) (value : Option Operand) → IsHere e k m s → node_at e.c.program m.frame.func m.frame.node ≡ node.Ret value
    → ReturnAgrees e.input (option_map (value_in s) value) (option_map (machine.value_in (machine.counted m.frame)) value)
return-along e k m s None h code = tt
return-along e k m s (Some a) h code = operand-counted e k m s a h (given-here e k m s (node.Ret (Some a)) h code).0

-- what the log has written out is what the history has
wrote-along : (e : Scene) (k : ℕ) (m : machine.State) (s : State) → IsHere e k m s → history.output m.history ≡ map (bits_under e.input) (output s.memory.log)
wrote-along e k m s h = sym (output_law e.input [] none_gave s.memory.log m.history (alike e.input s m h.agrees).log (need-none want.Output s.memory.log h.state.no_calls.log))

-- ---- the exit

exits-along : (e : Scene) (k : ℕ) (m : machine.State) (s : State) (status : Operand) (target : Option Target) → target ≡ None → IsHere e k m s → node_at e.c.program m.frame.func m.frame.node ≡ node.Exit status
    → AnswerGoesAlong e (exits target (value_in s status) s)
exits-along e k m s status None none h code =
    let left = with_frame (machine.counted m.frame) m in
    knows-first e k m s want.Output (completed (Some (value_in s status))) h
    (ends-along e k m s (status_of (Some (value_in s status))) (output s.memory.log) left h
    (does e m (node.Exit status) code ∙ ap (λ n. machine.Over (Exited n) left) (byte-along e k m s (node.Exit status) status [] h code refl))
    (wrote-along e k m s h) (alike e.input s m h.agrees).path)
exits-along e k m s status (Some target) none h code = absurd (none-some target (sym none))

pub exit-along : (e : Scene) (k : ℕ) (m : machine.State) (s : State) (status : Operand) → IsHere e k m s → node_at e.c.program m.frame.func m.frame.node ≡ node.Exit status → AnswerGoesAlong e (executes e.c (node.Exit status) s)
exit-along e k m s status h code = firm-first e k m s (status ∷ []) (λ u. exits u.target (value_in u status) u) h (exits-along e k m s status s.target h.state.no_calls.target h code)

-- ---- what a frame frees at its end

abbrev objects_of_node : List CallStep → FuncId → NodeId → ℕ → ℕ → List ObjectName
objects_of_node name func n zero k = []
objects_of_node name func n (suc more) k = object.Made name (record { func = func; node = n; count = k }) ∷ objects_of_node name func n more (k + 1)

abbrev objects_at : List CallStep → FuncId → NodeId → ℕ → Node → List ObjectName
objects_at name func n count (node.Alloca size result next) = objects_of_node name func n count 1
objects_at name func n count _ = []

abbrev objects_from : List CallStep → FuncId → List ℕ → ℕ → List Node → List ObjectName
objects_from name func counts k [] = []
objects_from name func counts k (x ∷ xs) = objects_at name func (record { 0 = k }) (unwrap_or (slice_get counts k) 0) x ++ objects_from name func counts (k + 1) xs

abbrev freed : ObjectName → entry.Entry
freed x = entry.Free x

abbrev free : ObjectName → history.Change
free x = Free x

node-entries : (f : Frame) (n more k : ℕ) → frees_of_node f n more k ≡ map freed (objects_of_node f.name f.func (record { 0 = n }) more k)
node-entries f n zero k = refl
node-entries f n (suc more) k = ap (λ es. entry.Free (object.Made f.name (record { func = f.func; node = record { 0 = n }; count = k })) ∷ es) (node-entries f n more (k + 1))

at-entries : (f : Frame) (n count : ℕ) (x : Node) → frees_at f n count x ≡ map freed (objects_at f.name f.func (record { 0 = n }) count x)
at-entries f n count (node.Alloca size result next) = node-entries f n count 1
at-entries f n count _ = refl

from-entries : (f : Frame) (k : ℕ) (xs : List Node) → frees_from f k xs ≡ map freed (objects_from f.name f.func f.counts k xs)
from-entries f k [] = refl
from-entries f k (x ∷ xs) =
    let count : ℕ = unwrap_or (slice_get f.counts k) 0 in
    ap (λ es. es ++ frees_from f (k + 1) xs) (at-entries f k count x)
    ∙ ap (λ es. map freed (objects_at f.name f.func (record { 0 = k }) count x) ++ es) (from-entries f (k + 1) xs)
    ∙ sym (map-append freed (objects_at f.name f.func (record { 0 = k }) count x) (objects_from f.name f.func f.counts (k + 1) xs))

node-changes : (g : machine.Frame) (n : NodeId) (more k : ℕ) → steps.frees_of_node g n more k ≡ map free (objects_of_node g.name g.func n more k)
node-changes g n zero k = refl
node-changes g n (suc more) k = ap (λ cs. Free (object.Made g.name (record { func = g.func; node = n; count = k })) ∷ cs) (node-changes g n more (k + 1))

at-changes : (g : machine.Frame) (n : NodeId) (count : ℕ) (x : Node) → steps.frees_at g n count x ≡ map free (objects_at g.name g.func n count x)
at-changes g n count (node.Alloca size result next) = node-changes g n count 1
at-changes g n count _ = refl

from-changes : (g : machine.Frame) (k : ℕ) (xs : List Node) → steps.frees_from g k xs ≡ map free (objects_from g.name g.func g.counts k xs)
from-changes g k [] = refl
from-changes g k (x ∷ xs) =
    let count : ℕ = unwrap_or (slice_get g.counts k) 0 in
    ap (λ cs. cs ++ steps.frees_from g (k + 1) xs) (at-changes g (record { 0 = k }) count x)
    ∙ ap (λ cs. map free (objects_at g.name g.func (record { 0 = k }) count x) ++ cs) (from-changes g (k + 1) xs)
    ∙ sym (map-append free (objects_at g.name g.func (record { 0 = k }) count x) (objects_from g.name g.func g.counts (k + 1) xs))

-- a log with frees stands for the history with them
freed-stands : (input : List ℕ) (xs : List ObjectName) (log : Log) (h : History) → StandsFor log h input [] none_gave → StandsFor (map Did (map freed xs) ++ log) (map free xs ++ h) input [] none_gave
freed-stands input [] log h stands = stands
freed-stands input (x ∷ xs) log h stands =
    let more = freed-stands input xs log h stands in
    record { is = ap (λ (g : History). Free x ∷ g) more.is; marks = more.marks }

-- and writes out what the history wrote
freed-wrote : (xs : List ObjectName) (h : History) → history.output (map free xs ++ h) ≡ history.output h
freed-wrote [] h = refl
freed-wrote (x ∷ xs) h = freed-wrote xs h

-- the names of what a frame frees
abbrev objects_in : ProgramData → List CallStep → FuncId → List ℕ → List ObjectName
objects_in p name func counts = reverse (objects_from name func counts 0 (nodes_of (func_at p func)))

entries-in : (p : ProgramData) (f : Frame) → reverse (frees_from f 0 (nodes_of (func_at p f.func))) ≡ map freed (objects_in p f.name f.func f.counts)
entries-in p f =
    let xs = objects_from f.name f.func f.counts 0 (nodes_of (func_at p f.func)) in
    ap reverse (from-entries f 0 (nodes_of (func_at p f.func))) ∙ sym (map-reverse freed xs)

changes-in : (p : ProgramData) (g : machine.Frame) → reverse (steps.frees_from g 0 (nodes_of (func_at p g.func))) ≡ map free (objects_in p g.name g.func g.counts)
changes-in p g =
    let xs = objects_from g.name g.func g.counts 0 (nodes_of (func_at p g.func)) in
    ap reverse (from-changes g 0 (nodes_of (func_at p g.func))) ∙ sym (map-reverse free xs)

-- frames that agree free the same
ended-stands : (p : ProgramData) (input : List ℕ) (f : Frame) (g : machine.Frame) (log : Log) (h : History) → FrameAgrees input [] f g → StandsFor log h input [] none_gave
    → StandsFor (map Did (reverse (frees_from f 0 (nodes_of (func_at p f.func)))) ++ log) (reverse (steps.frees_from g 0 (nodes_of (func_at p g.func))) ++ h) input [] none_gave
ended-stands p input f g log h same stands =
    let xs = objects_in p f.name f.func f.counts in
    let objects : objects_in p g.name g.func g.counts ≡ xs = λ j. objects_in p (same.name j) (same.func j) (same.counts j) in
    subst (λ es. StandsFor (map Did es ++ log) (reverse (steps.frees_from g 0 (nodes_of (func_at p g.func))) ++ h) input [] none_gave) (sym (entries-in p f))
    (subst (λ cs. StandsFor (map Did (map freed xs) ++ log) (cs ++ h) input [] none_gave) (sym (changes-in p g ∙ ap (map free) objects)) (freed-stands input xs log h stands))

ended-wrote : (p : ProgramData) (g : machine.Frame) (h : History) → history.output (reverse (steps.frees_from g 0 (nodes_of (func_at p g.func))) ++ h) ≡ history.output h
ended-wrote p g h = ap (λ (cs : History). history.output (cs ++ h)) (changes-in p g) ∙ freed-wrote (objects_in p g.name g.func g.counts) h

-- ---- frames

-- the frame is counted on both sides
counted-agrees : (e : Scene) (f : Frame) (g : machine.Frame) → FrameAgrees e.input [] f g → FrameAgrees e.input [] (counted f) (machine.counted g)
counted-agrees e f g h = record { func = h.func; place = h.place; name = h.name; counts = counts-done e f g h; regs = h.regs }

-- the frame goes on behind its node, with these registers
goes-agree : (e : Scene) (f : Frame) (g : machine.Frame) (x : Node) (next : NodeId) (regs : List (Option SymValue)) (values : List ConcreteValue) → FrameAgrees e.input [] f g → code_of e.c.program f ≡ x
    → slice_get (successors_of x) 0 ≡ Some next → RegsAgree e.input [] regs values → FrameAgrees e.input [] (moved e.c 0 (record f { regs = regs })) (record g { node = next; regs = values })
goes-agree e f g x next regs values h code leads agree = record {
  func = h.func;
  place = place_is e.c (record f { regs = regs }) x 0 next e.c.residual e.plain.no_slice code leads;
  name = h.name;
  counts = h.counts;
  regs = agree;
}

resumed-agrees : (e : Scene) (f : Frame) (g : machine.Frame) (callee : FuncId) (args : List Operand) (result : Option RegId) (next : NodeId) (v : Option SymValue) (w : Option ConcreteValue) → FrameAgrees e.input [] f g
    → code_of e.c.program f ≡ node.Call callee args result next → ReturnAgrees e.input v w → FrameAgrees e.input [] (moved e.c 0 (set_if result v f)) (machine.at_node next (set_result result w g))
resumed-agrees e f g callee args None next v None h code is = goes-agree e f g (node.Call callee args None next) next f.regs g.regs h code refl h.regs
resumed-agrees e f g callee args None next v (Some w) h code is = goes-agree e f g (node.Call callee args None next) next f.regs g.regs h code refl h.regs
resumed-agrees e f g callee args (Some r) next None None h code is = goes-agree e f g (node.Call callee args (Some r) next) next f.regs g.regs h code refl h.regs
resumed-agrees e f g callee args (Some r) next None (Some w) h code is = absurd is
resumed-agrees e f g callee args (Some r) next (Some v) None h code is = absurd is
resumed-agrees e f g callee args (Some r) next (Some v) (Some w) h code is =
    goes-agree e f g (node.Call callee args (Some r) next) next (slice_set f.regs r.0 (Some v)) (slice_set g.regs r.0 w) h code refl (regs-set e.input f.regs g.regs r.0 v w h.regs is)

resumed-at : (e : Scene) (f : Frame) (g : machine.Frame) (func : FuncId) (x : Node) (v : Option SymValue) (w : Option ConcreteValue) → FrameAgrees e.input [] f g → code_of e.c.program f ≡ x → IsCallOf func x → ReturnAgrees e.input v w
    → FrameAgrees e.input [] (moved e.c 0 (set_if (call_result x) v f)) (steps.resumed x w g)
resumed-at e f g func (node.Call callee args result next) v w h code calls is = resumed-agrees e f g callee args result next v w h code is
resumed-at e f g func _ v w h code calls is = absurd calls

-- the caller goes on behind its call on both sides
resumed-along : (e : Scene) (f : Frame) (g : machine.Frame) (func : FuncId) (v : Option SymValue) (w : Option ConcreteValue) → FrameAgrees e.input [] f g → IsCallOf func (code_of e.c.program f) → ReturnAgrees e.input v w
    → FrameAgrees e.input [] (resumed e.c v f) (steps.resumed (node_at e.c.program g.func g.node) w g)
resumed-along e f g func v w h calls is =
    let code : code_of e.c.program f ≡ node_at e.c.program g.func g.node = λ j. node_at e.c.program (sym h.func j) (node_of (h.place j)) in
    subst (λ x. FrameAgrees e.input [] (resumed e.c v f) (steps.resumed x w g)) code (resumed-at e f g func (code_of e.c.program f) v w h refl calls is)

-- ---- what is shown of calls stands in no path

pub entered-outside : (events : List Event) (f : FuncId) (n : NodeId) (callee : FuncId) → outside [] (events ++ Entered f n callee ∷ []) ≡ outside [] events
entered-outside [] f n callee = refl
entered-outside (Branched g m side ∷ t) f n callee = ap (λ es. Branched g m side ∷ es) (entered-outside t f n callee)
entered-outside (Loaded g m v ∷ t) f n callee = ap (λ es. Loaded g m v ∷ es) (entered-outside t f n callee)
entered-outside (Entered g m other ∷ t) f n callee = entered-outside t f n callee
entered-outside (Returned v ∷ t) f n callee = entered-outside t f n callee

pub returned-outside : (events : List Event) (w : Option ConcreteValue) → outside [] (events ++ Returned w ∷ []) ≡ outside [] events
returned-outside [] w = refl
returned-outside (Branched g m side ∷ t) w = ap (λ es. Branched g m side ∷ es) (returned-outside t w)
returned-outside (Loaded g m v ∷ t) w = ap (λ es. Loaded g m v ∷ es) (returned-outside t w)
returned-outside (Entered g m other ∷ t) w = returned-outside t w
returned-outside (Returned v ∷ t) w = returned-outside t w

-- ---- returns

-- the frame ends: main's, or one whose caller goes on
ends-frame-along : (e : Scene) (k : ℕ) (m : machine.State) (s : State) (value : Option Operand) (target : Option Target) (callers : List Frame) (others : List machine.Frame) → target ≡ None → callers ≡ s.callers → others ≡ m.callers
    → IsHere e k m s → node_at e.c.program m.frame.func m.frame.node ≡ node.Ret value
    → AnswerGoesAlong e (elim (is_main_end target callers) [
      | true ↦ then_step (firm (option_to_list value) s) (λ u. completes (option_map (value_in u) value) u)
      | false ↦ leaves_to e.c (option_map (value_in s) value) callers (ended e.c (in_frame (counted s.frame) s))
    ])
ends-frame-along e k m s value (Some target) callers others none mine theirs h code = absurd (none-some target (sym none))
ends-frame-along e k m s value None [] [] none mine theirs h code =
    let p : ProgramData = e.c.program in
    let v = option_map (value_in s) value in
    let w = option_map (machine.value_in (machine.counted m.frame)) value in
    let left = steps.ended p (with_frame (machine.counted m.frame) m) in
    firm-first e k m s (option_to_list value) (λ u. completes (option_map (value_in u) value) u) h
    (knows-first e k m s want.Output (completed v) h
    (ends-along e k m s (status_of v) (output s.memory.log) left h
    (does e m (node.Ret value) code ∙ ap (λ gs. steps.returns p w gs left) (sym theirs) ∙ ap (λ n. machine.Over (Exited n) left) (status-along e k m s value h code))
    (ended-wrote p (machine.counted m.frame) m.history ∙ wrote-along e k m s h) (alike e.input s m h.agrees).path))
ends-frame-along e k m s value None [] (g ∷ gs) none mine theirs h code = absurd (subst (λ fs. FramesAgree e.input [] fs (g ∷ gs)) (sym mine) (subst (FramesAgree e.input [] s.callers) (sym theirs) (alike e.input s m h.agrees).callers))
ends-frame-along e k m s value None (f ∷ fs) [] none mine theirs h code = absurd (subst (λ fs. FramesAgree e.input [] fs []) (sym mine) (subst (FramesAgree e.input [] s.callers) (sym theirs) (alike e.input s m h.agrees).callers))
ends-frame-along e k m s value None (f ∷ fs) (g ∷ gs) none mine theirs h code =
    let p : ProgramData = e.c.program in
    let v = option_map (value_in s) value in
    let w = option_map (machine.value_in (machine.counted m.frame)) value in
    let a = alike e.input s m h.agrees in
    let left = steps.ended p (with_frame (machine.counted m.frame) m) in
    let callers = subst (λ fs. FramesAgree e.input [] fs (g ∷ gs)) (sym mine) (subst (FramesAgree e.input [] s.callers) (sym theirs) a.callers) in
    let waits = subst (WaitAtCalls p s.frame) (sym mine) h.state.set.calls in
    let u = ended e.c (in_frame (counted s.frame) s) in
    let next : State = record u { frame = resumed e.c v f; callers = fs } in
    let there : machine.State = steps.shown (Returned w) (record left { frame = steps.resumed (node_at p g.func g.node) w g; callers = gs }) in
    goes-along e k m s next there h (does e m (node.Ret value) code ∙ ap (λ gs. steps.returns p w gs left) (sym theirs))
    (agreed e.input next there (record {
      frame = resumed-along e f g s.frame.func v w callers.0 waits.0 (return-along e k m s value h code);
      callers = callers.1;
      log = ended-stands p e.input (counted s.frame) (machine.counted m.frame) s.memory.log m.history (counted-agrees e s.frame m.frame a.frame) a.log;
      path = returned-outside m.events w ∙ a.path;
      shots = a.shots;
    }))

pub ret-along : (e : Scene) (k : ℕ) (m : machine.State) (s : State) (value : Option Operand) → IsHere e k m s → node_at e.c.program m.frame.func m.frame.node ≡ node.Ret value → AnswerGoesAlong e (executes e.c (node.Ret value) s)
ret-along e k m s value h code = ends-frame-along e k m s value s.target s.callers m.callers h.state.no_calls.target refl refl h code

-- ---- calls

abbrev ValuesAgree : List ℕ → List SymValue → List ConcreteValue → Type 0
ValuesAgree input [] [] = Unit {0}
ValuesAgree input [] (w ∷ ws) = ⊥
ValuesAgree input (v ∷ vs) [] = ⊥
ValuesAgree input (v ∷ vs) (w ∷ ws) = (w ≡ value_under input [] v) × ValuesAgree input vs ws

args-along : (e : Scene) (k : ℕ) (m : machine.State) (s : State) (args : List Operand) → IsHere e k m s → Each (IsGiven s) args → ValuesAgree e.input (map (value_in s) args) (map (machine.value_in (machine.counted m.frame)) args)
args-along e k m s [] h given = tt
args-along e k m s (a ∷ args) h given = (operand-counted e k m s a h given.0, args-along e k m s args h given.1)

entered-regs : (input : List ℕ) (vs : List SymValue) (ws : List ConcreteValue) (ts : List RegType) → ValuesAgree input vs ws → RegsAgree input [] (map (λ v. Some v) vs ++ map (λ t. None) (drop (length vs) ts)) (ws ++ map zero_of (drop (length ws) ts))
entered-regs input [] [] ts h = unset-agree input [] ts
entered-regs input [] (w ∷ ws) ts h = absurd h
entered-regs input (v ∷ vs) [] ts h = absurd h
entered-regs input (v ∷ vs) (w ∷ ws) [] h = (h.0, rest vs ws h.1)
  where
    rest : (vs : List SymValue) (ws : List ConcreteValue) → ValuesAgree input vs ws → RegsAgree input [] (map (λ v. Some v) vs ++ []) (ws ++ [])
    rest [] [] h = tt
    rest [] (w ∷ ws) h = absurd h
    rest (v ∷ vs) [] h = absurd h
    rest (v ∷ vs) (w ∷ ws) h = (h.0, rest vs ws h.1)
entered-regs input (v ∷ vs) (w ∷ ws) (t ∷ ts) h = (h.0, entered-regs input vs ws ts h.1)

-- the frame that a call makes agrees on both sides
entered-agrees : (e : Scene) (k : ℕ) (m : machine.State) (s : State) (callee : FuncId) (args : List Operand) → IsHere e k m s → Each (IsGiven s) args
    → FrameAgrees e.input [] (entered e.c.program e.c.residual callee (map (value_in s) args) (name_below s.frame))
    (machine.entered e.c.program callee (map (machine.value_in (machine.counted m.frame)) args) (machine.step_here (machine.counted m.frame) ∷ m.frame.name))
entered-agrees e k m s callee args h given =
    let p : ProgramData = e.c.program in
    let a = alike e.input s m h.agrees in
    subst (λ residual. FrameAgrees e.input [] (entered p residual callee (map (value_in s) args) (name_below s.frame))
    (machine.entered p callee (map (machine.value_in (machine.counted m.frame)) args) (machine.step_here (machine.counted m.frame) ∷ m.frame.name))) (sym e.plain.no_slice) (record {
      func = refl;
      place = refl;
      name = λ j. step-here e k m s h j ∷ a.frame.name j;
      counts = refl;
      regs = entered-regs e.input (map (value_in s) args) (map (machine.value_in (machine.counted m.frame)) args) (regs_of (func_at p callee)) (args-along e k m s args h given);
    })

enters-along : (e : Scene) (k : ℕ) (m : machine.State) (s : State) (callee : FuncId) (args : List Operand) (result : Option RegId) (next : NodeId) → IsHere e k m s → node_at e.c.program m.frame.func m.frame.node ≡ node.Call callee args result next
    → AnswerGoesAlong e (enters e.c callee (map (value_in s) args) s)
enters-along e k m s callee args result next h code =
    let p : ProgramData = e.c.program in
    let a = alike e.input s m h.agrees in
    let x = node.Call callee args result next in
    let below = machine.entered p callee (map (machine.value_in (machine.counted m.frame)) args) (machine.step_here (machine.counted m.frame) ∷ m.frame.name) in
    let there : machine.State = steps.shown (Entered m.frame.func m.frame.node callee) (record m { frame = below; callers = machine.counted m.frame ∷ m.callers }) in
    let after : State = record s { frame = entered p e.c.residual callee (map (value_in s) args) (name_below s.frame); callers = counted s.frame ∷ s.callers } in
    goes-along e k m s after there h (does e m x code)
    (agreed e.input after there (record {
      frame = entered-agrees e k m s callee args h (given-here e k m s x h code);
      callers = (counted-agrees e s.frame m.frame a.frame, a.callers);
      log = a.log;
      path = entered-outside m.events m.frame.func m.frame.node callee ∙ a.path;
      shots = a.shots;
    }))

pub call-along : (e : Scene) (k : ℕ) (m : machine.State) (s : State) (callee : FuncId) (args : List Operand) (result : Option RegId) (next : NodeId) → IsHere e k m s → node_at e.c.program m.frame.func m.frame.node ≡ node.Call callee args result next
    → AnswerGoesAlong e (executes e.c (node.Call callee args result next) s)
call-along e k m s callee args result next h code =
    subst (λ b. AnswerGoesAlong e (elim b [ true ↦ skips e.c callee (map (value_in s) args) result s | false ↦ enters e.c callee (map (value_in s) args) s ])) (sym (none-skipped e.c callee s.target e.plain.no_skips))
    (enters-along e k m s callee args result next h code)
