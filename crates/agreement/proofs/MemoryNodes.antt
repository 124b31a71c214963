-- Nodes that make, free, read or write objects, or take input or give output, go along with the run.
use Rattle.std.proofs.Common.{◌≡◌, ℕ, zero, suc, Bool, true, false, not, ◌&&◌, ◌==◌, ◌+◌, ◌-◌, ◌%◌, ◌^◌, ◌<◌, ◌≤◌, List, [], ◌∷◌, ◌++◌, map, length, Option, Some, None, refl, sym, ◌∙◌, ap, subst, arith, lit≤, ◌⊎◌, inl, inr}
use Rattle.std.specs.Prelude.{cond, slice_get, nat_lt}
use Rattle.std.specs.List.{AllByRecursion as Each}
use Rattle.std.proofs.lemmas.Bool.{cases_Bool, leb-true, leb-false, not-false}
use Rattle.std.proofs.lemmas.Option.{slice_get_past}
use Rattle.std.proofs.lemmas.List.Elements.{recursion_from_All}
use Rattle.std.proofs.Math.Nat.{mod-eq_of_lt}
use Rattle.bitnum.specs.Number.{IsWidth}
use Rattle.std.proofs.lemmas.List.{length-map}
use Rattle.terms.specs.Tree as tree
use Rattle.terms.specs.Tree.{Tree, width_of}
use Rattle.terms.specs.Value.{value_of, byte_of, is_met_by}
use Rattle.terms.specs.Folding.{folded_one}
use Rattle.terms.specs.declared.term.Unary.TheVariants.{Zext}
use Rattle.terms.proofs.Folds.{number_eq, value-folded_one}
use Rattle.terms.proofs.Numbers.{width-value_of}
use Rattle.checks.specs.Types.{is_scalar, has, sets, type_of}
use Rattle.checks.specs.Types as checks
use Rattle.flat_ir.specs.declared.names.NodeId.{NodeId}
use Rattle.flat_ir.specs.declared.names.ObjectName.{ObjectName}
use Rattle.flat_ir.specs.declared.names.RegId.{RegId}
use Rattle.flat_ir.specs.declared.nodes.Node.{Node}
use Rattle.flat_ir.specs.declared.nodes.Node.TheVariants as node
use Rattle.flat_ir.specs.declared.nodes.Operand.{Operand}
use Rattle.flat_ir.specs.declared.nodes.RegType.{RegType}
use Rattle.flat_ir.specs.declared.nodes.RegType.TheVariants as type
use Rattle.flat_ir.specs.declared.values.Address.{Address}
use Rattle.flat_ir.specs.declared.values.ConcreteByte.{ConcreteByte}
use Rattle.flat_ir.specs.declared.values.ConcreteValue.{ConcreteValue}
use Rattle.flat_ir.specs.declared.values.ConcreteValue.TheVariants as concrete
use Rattle.flat_ir.specs.declared.values.FaultKind.{FaultKind}
use Rattle.flat_ir.specs.declared.values.FaultKind.TheVariants as fault
use Rattle.flat_ir.specs.Effects.{stored_in, written_in, freed_in}
use Rattle.flat_ir.specs.History.{Change, Write, Alloc, Free, Get, Put, History, is_alive}
use Rattle.flat_ir.specs.History as history
use Rattle.flat_ir.specs.Machine as machine
use Rattle.flat_ir.specs.Machine.{Event, Branched, Loaded, Entered, Returned, Faulted, node_at, func_at, regs_of, made_here, count_here}
use Rattle.flat_ir.proofs.MadeBasics.{both, not_true}
use Rattle.flat_ir.specs.Registers as registers
use Rattle.flat_ir.specs.Registers.{address, first_of, joined, bytes_of_type}
use Rattle.flat_ir.specs.Skipped.{outside}
use Rattle.flat_ir.specs.Sound.{IsInput}
use Rattle.flat_ir.specs.Steps as steps
use Rattle.flat_ir.specs.Steps.{with_frame, unless, access_fault, free_fault, byte_there, made_by_malloc, gives_loaded}
use Rattle.flat_ir.specs.Whole.{successors_of}
use Rattle.sym_bytes.specs.declared.names.Base.{Base}
use Rattle.sym_bytes.specs.declared.names.Base.TheVariants.{Null, Object}
use Rattle.sym_bytes.specs.Answers as answers
use Rattle.sym_bytes.specs.Answers.{Living, Alive, Dead}
use Rattle.sym_bytes.specs.Building.{number, wide, null, pointer_to}
use Rattle.sym_bytes.specs.Byte.{SymByte}
use Rattle.sym_bytes.specs.Entry as entry
use Rattle.sym_bytes.specs.Entry.{Entry}
use Rattle.sym_bytes.specs.Pointers.{Pointer}
use Rattle.sym_bytes.specs.Under.{base_under, bits_under, byte_under, value_under, address_under}
use Rattle.sym_bytes.specs.Value as value
use Rattle.sym_bytes.specs.Value.{SymValue}
use Rattle.log_laws.specs.Law.{IsBorn, IsOnce, LifeIs}
use Rattle.log_laws.specs.Logs.{life, position}
use Rattle.log_laws.specs.Standing.{writes_under, changes_under, StandsFor}
use Rattle.log_laws.proofs.Appending.{entry_law}
use Rattle.log_laws.proofs.Fills.{position_law}
use Rattle.leaves.specs.Claims.{event_under}
use Rattle.leaves.specs.Events as leaf
use Rattle.leaves.specs.Fitting.{IsTermOf, ValueFits}
use Rattle.sym_states.specs.Attempts.{Reached, access, ReadBytes, Valued, reads, join_read, loaded, loads, writes, copies, makes, frees_object, frees_made, frees_alive, frees_base, frees, mallocs, asks_memory, loads_at, stores_at, copies_from, takes_input, puts, executes, must}
use Rattle.sym_states.specs.Sides.{Tested, Good, Bad, Answered, test}
use Rattle.sym_states.specs.States.{State, then_flow, appended, shown, here, made_now, node_of, goes_on}
use Rattle.sym_states.specs.Terms.{value_in, term_in, number_in, address_in, bytes_of_value, stored_bytes, low_byte, size_in, is_small, is_start, input_at}
use Rattle.state_laws.specs.Kept.{OperandFits, IsShortType}
use Rattle.state_laws.specs.Skipless.{IsFirm}
use Rattle.state_laws.proofs.FirmLogs.{need-none}
use Rattle.state_laws.proofs.FirmValues.{value_in-firm}
use Rattle.state_laws.proofs.Programs.{type_at-short}
use Rattle.state_laws.proofs.States.{parts_of, value_in-fits, address_in-fits}
use Rattle.state_laws.proofs.Terms.{is_start-fits, is_small-fits, size_in-fits, input_at-fits}
use Rattle.state_laws.proofs.Values.{bytes_of_value-few}
use Rattle.typed_runs.specs.TypedRuns.{HasType}
use Rattle.typed_runs.proofs.Types.{operand_is, operand_has}
use Rattle.agreement.proofs.Along.{Scene, IsHere, AnswerGoesAlong, IsPast, HasFault, TestGoesAlong, IsGiven, SetsTo, Alike, alike, knows-first, firm-first, fails-along, unmet-side, test-along, must-along, then-flow-along, then-step-along, operand-along, done-along, fault-along, flow-weaker}
use Rattle.agreement.proofs.Here.{made-here}
use Rattle.agreement.proofs.Nodes.{begun, Attempts, StandsThere, unless-none, tests-fault, is-at, value-along, address-along, number-along, term-along, path-shown}
use Rattle.agreement.proofs.Bounds.{met-start}
use Rattle.agreement.proofs.Values.{met-small, size-is, bits-low_byte}
use Rattle.agreement.proofs.Reading.{read-behind, IsReached, life-along, access-along, HasRead, IsReadable, reads-along, HasJoined, join_read-along}
use Rattle.agreement.proofs.Storing.{writes-along, size-along, stored-along}
use Rattle.agreement.specs.Premises.{none_gave}

sets-to : (input : List ℕ) (r : Option RegId) (v : SymValue) (w : ConcreteValue) → w ≡ value_under input [] v → SetsTo input r (Some v) w
sets-to input None v w is = tt
sets-to input (Some r) v w is = is

-- ---- changes of the log and the path

alike-appended : (input : List ℕ) (x : Entry) (s : State) (m : machine.State) (h : History) → Alike input s m → changes_under input [] x ++ m.history ≡ h → Alike input (appended x s) (record m { history = h })
alike-appended input x s m h same is = record {
  frame = same.frame;
  callers = same.callers;
  log = subst (λ g. StandsFor (appended x s).memory.log g input [] none_gave) is (entry_law input [] none_gave x s.memory.log m.history same.log);
  path = same.path;
  shots = same.shots;
}

alike-loaded : (input : List ℕ) (x : leaf.Event) (shows : Event) (s : State) (m : machine.State) → Alike input s m → outside [] (shows ∷ []) ≡ shows ∷ [] → shows ≡ event_under input [] x
    → Alike input (shown x s) (record m { events = m.events ++ shows ∷ [] })
alike-loaded input x shows s m same quiet is = record {
  frame = same.frame;
  callers = same.callers;
  log = same.log;
  path = path-shown input x shows s.path m.events same.path quiet is;
  shots = same.shots;
}

-- ---- objects that are made

-- a node that makes an object
makes-along : (e : Scene) (k : ℕ) (m : machine.State) (s : State) (x : Node) (result : Option RegId) (size : Tree) (next : NodeId) → IsHere e k m s → StandsThere e m x → slice_get (successors_of x) 0 ≡ Some next
    → Attempts e m x (steps.gives_if result (steps.new_here (begun m)) next (steps.allocated (bits_under e.input size) (begun m)))
    → AnswerGoesAlong e (makes e.c result size s)
makes-along e k m s x result size next h code leads does =
    let same = alike e.input s m h.agrees in
    let made = made-here e k m s h in
    let after : ObjectName → History = λ y. Alloc y (bits_under e.input size) ∷ m.history in
    let at : ObjectName → ConcreteValue = λ y. concrete.Ptr (record { base = Some y; offset = 0 }) in
    done-along e k m s (appended (entry.Alloc (made_now s.frame) size) s) x result (Some (pointer_to (made_now s.frame) 0)) (at (made_now s.frame)) next (after (made_now s.frame)) m.events h code leads
    (sets-to e.input result (pointer_to (made_now s.frame) 0) (at (made_now s.frame)) refl)
    (alike-appended e.input (entry.Alloc (made_now s.frame) size) s m (after (made_now s.frame)) same refl)
    (does ∙ ap {A = ObjectName} {B = machine.Run} (λ y. machine.On (record m { frame = machine.at_node next (machine.set_if result (at y) (machine.counted m.frame)); history = after y; events = m.events })) made)

pub alloca-along : (e : Scene) (k : ℕ) (m : machine.State) (s : State) (size : ℕ) (result : RegId) (next : NodeId) → IsHere e k m s → StandsThere e m (node.Alloca size result next)
    → AnswerGoesAlong e (executes e.c (node.Alloca size result next) s)
alloca-along e k m s size result next h code = makes-along e k m s (node.Alloca size result next) (Some result) (wide size) next h code refl refl

-- ---- sizes

-- a number's term has its width
width-is : (input : List ℕ) (n width : ℕ) (v : SymValue) → IsFirm v → ValueFits n v → HasType (type.Int width) (value_under input [] v) → width_of (term_in v) ≡ width
width-is input n width (value.Int t) firm fits has_type = sym (width-value_of t input fits.tree) ∙ has_type
width-is input n width (value.Ptr p) firm fits has_type = absurd has_type
width-is input n width (value.Pending c t) firm fits has_type = absurd firm

width-along : (e : Scene) (k : ℕ) (m : machine.State) (s : State) (a : Operand) (width : ℕ) → IsHere e k m s → IsGiven s a → OperandFits a → HasType (type.Int width) (machine.value_in m.frame a) → width_of (number_in s a) ≡ width
width-along e k m s a width h given fits has_type =
    width-is e.input (length e.input) width (value_in s a) (value_in-firm s a h.state.no_calls) (value_in-fits (length e.input) s a h.state.fits fits).fits
    (subst (HasType (type.Int width)) (operand-along e k m s a h given) has_type)

mallocs-tested : (e : Scene) (k : ℕ) (m : machine.State) (s : State) (x : Node) (result : Option RegId) (size : Tree) (next : NodeId) (tested : Tested) → IsHere e k m s → StandsThere e m x → slice_get (successors_of x) 0 ≡ Some next
    → IsTermOf (length e.input) 64 size
    → Attempts e m x (cond (nat_lt 65536 (bits_under e.input size)) (steps.gives_if result (concrete.Ptr registers.null) next (begun m)) (steps.gives_if result (steps.new_here (begun m)) next (steps.allocated (bits_under e.input size) (begun m))))
    → TestGoesAlong e k m s (is_small size) tested → AnswerGoesAlong e (mallocs e.c result size tested)
mallocs-tested e k m s x result size next (Good u) h code leads fits does test =
    let small = not_true (nat_lt 65536 (bits_under e.input size)) (sym (met-small (length e.input) size e.input fits) ∙ test.met) in
    makes-along e k m u x result size next test.here code leads
    (does ∙ ap (λ b. cond b (steps.gives_if result (concrete.Ptr registers.null) next (begun m)) (steps.gives_if result (steps.new_here (begun m)) next (steps.allocated (bits_under e.input size) (begun m)))) small)
mallocs-tested e k m s x result size next (Bad u) h code leads fits does test =
    let unmet = unmet-side (length e.input) (is_small size) e.input (is_small-fits (length e.input) size fits) test.met in
    let large = not-false (nat_lt 65536 (bits_under e.input size)) (sym (met-small (length e.input) size e.input fits) ∙ unmet) in
    done-along e k m u u x result (Some null) (concrete.Ptr registers.null) next m.history m.events test.here code leads (sets-to e.input result null (concrete.Ptr registers.null) refl) (alike e.input u m test.here.agrees)
    (does ∙ ap (λ b. cond b (steps.gives_if result (concrete.Ptr registers.null) next (begun m)) (steps.gives_if result (steps.new_here (begun m)) next (steps.allocated (bits_under e.input size) (begun m)))) large)
mallocs-tested e k m s x result size next (Answered step) h code leads fits does test = test

pub malloc-along : (e : Scene) (k : ℕ) (m : machine.State) (s : State) (size : Operand) (result : Option RegId) (next : NodeId) → IsHere e k m s → StandsThere e m (node.Malloc size result next)
    → AnswerGoesAlong e (executes e.c (node.Malloc size result next) s)
malloc-along e k m s size result next h code =
    let at = is-at e k m s (node.Malloc size result next) h code in
    let regs = regs_of (func_at e.c.program m.frame.func) in
    let is_wide = (both (has regs size (type.Int 64)) (sets regs result (Some type.Ptr)) at.typed).0 in
    let wide_size = width-along e k m s size 64 h at.given.0 at.fits.operands.0 (operand_is e.c.program m.frame size (type.Int 64) at.holds is_wide) in
    let t = size_in (number_in s size) in
    let fits = size_in-fits (length e.input) (number_in s size) (term-along e k m s size h at.fits.operands.0) in
    let bits : (steps.number_in (begun m) size).bits ≡ bits_under e.input t = ap (λ n. n.bits) (number-along e k m s size h at.given.0) ∙ ap (bits_under e.input) (sym (size-is (number_in s size) wide_size)) in
    firm-first e k m s (size ∷ []) (asks_memory e.c size result) h
    (mallocs-tested e k m s (node.Malloc size result next) result t next (test e.c (is_small t) s) h code refl fits
    (ap (λ b. cond (nat_lt 65536 b) (steps.gives_if result (concrete.Ptr registers.null) next (begun m)) (steps.gives_if result (steps.new_here (begun m)) next (steps.allocated b (begun m)))) bits)
    (test-along e k m s (is_small t) h (is_small-fits (length e.input) t fits)))

-- ---- frees

done-quiet : (e : Scene) (k : ℕ) (m : machine.State) (u : State) (x : Node) (next : NodeId) → IsHere e k m u → StandsThere e m x → slice_get (successors_of x) 0 ≡ Some next
    → Attempts e m x (steps.to next (begun m)) → AnswerGoesAlong e (goes_on e.c u)
done-quiet e k m u x next h code leads does = done-along e k m u u x None None (concrete.Ptr registers.null) next m.history m.events h code leads tt (alike e.input u m h.agrees) does

-- a node that only changes memory, by one entry
done-appended : (e : Scene) (k : ℕ) (m : machine.State) (u : State) (x : Node) (next : NodeId) (y : Entry) (after : History) → IsHere e k m u → StandsThere e m x → slice_get (successors_of x) 0 ≡ Some next
    → Attempts e m x (steps.to next (steps.with_history after (begun m))) → changes_under e.input [] y ++ m.history ≡ after → AnswerGoesAlong e (goes_on e.c (appended y u))
done-appended e k m u x next y after h code leads does is =
    done-along e k m u (appended y u) x None None (concrete.Ptr registers.null) next after m.events h code leads tt (alike-appended e.input y u m after (alike e.input u m h.agrees) is) does

-- the run's attempt of a free
abbrev FreesAt : Scene → machine.State → Node → NodeId → Address → Type 0
FreesAt e m x next a = Attempts e m x (unless (free_fault e.c.program m.history a) (begun m) (steps.to next (steps.with_history (freed_in a m.history) (begun m))))

free-fault : (e : Scene) (m : machine.State) (x : Node) (next : NodeId) (a : Address) (kind : FaultKind) → StandsThere e m x → FreesAt e m x next a → free_fault e.c.program m.history a ≡ Some kind → HasFault e m kind
free-fault e m x next a kind code does is = tests-fault e m x (free_fault e.c.program m.history a) (steps.to next (steps.with_history (freed_in a m.history) (begun m))) code does kind is

free-none : (e : Scene) (m : machine.State) (x : Node) (next : NodeId) (a : Address) → FreesAt e m x next a → free_fault e.c.program m.history a ≡ None → Attempts e m x (steps.to next (steps.with_history (freed_in a m.history) (begun m)))
free-none e m x next a does is = does ∙ unless-none (free_fault e.c.program m.history a) (begun m) (steps.to next (steps.with_history (freed_in a m.history) (begun m))) is

frees-null : (e : Scene) (k : ℕ) (m : machine.State) (s : State) (x : Node) (next : NodeId) (offset : Tree) → IsHere e k m s → StandsThere e m x → slice_get (successors_of x) 0 ≡ Some next → IsTermOf (length e.input) 64 offset
    → FreesAt e m x next (address_under e.input (record { base = Null; offset = offset })) → AnswerGoesAlong e (frees_base e.c Null offset s)
frees-null e k m s x next offset h code leads wide does =
    let a = address_under e.input (record { base = Null; offset = offset }) in
    let told : (b : Bool) → is_met_by e.input (is_start offset) ≡ b → free_fault e.c.program m.history a ≡ cond b None (Some fault.BadFree)
    = λ b met. ap (λ c. cond c None (Some fault.BadFree)) (sym (met-start (length e.input) offset e.input wide) ∙ met) in
    then-step-along e (IsPast e k m s (is_start offset)) (must e.c (is_start offset) fault.BadFree s) (goes_on e.c)
    (must-along e k m s (is_start offset) fault.BadFree h (is_start-fits (length e.input) offset wide) (λ unmet. free-fault e m x next a fault.BadFree code does (told false unmet)))
    (λ u past. done-quiet e k m u x next past.here code leads (free-none e m x next a does (told true past.met)))

frees-object : (e : Scene) (k : ℕ) (m : machine.State) (s : State) (x : Node) (next : NodeId) (y : ObjectName) (offset : Tree) (made : Bool) → IsHere e k m s → StandsThere e m x → slice_get (successors_of x) 0 ≡ Some next → IsTermOf (length e.input) 64 offset
    → FreesAt e m x next (address_under e.input (record { base = Object y; offset = offset }))
    → ((start : Bool) → (bits_under e.input offset == 0) ≡ start → free_fault e.c.program m.history (address_under e.input (record { base = Object y; offset = offset })) ≡ cond (made && start) None (Some fault.BadFree))
    → AnswerGoesAlong e (frees_made e.c made y offset s)
frees-object e k m s x next y offset true h code leads wide does told =
    let a = address_under e.input (record { base = Object y; offset = offset }) in
    let is = met-start (length e.input) offset e.input wide in
    then-step-along e (IsPast e k m s (is_start offset)) (must e.c (is_start offset) fault.BadFree s) (frees_object e.c y)
    (must-along e k m s (is_start offset) fault.BadFree h (is_start-fits (length e.input) offset wide) (λ unmet. free-fault e m x next a fault.BadFree code does (told false (sym is ∙ unmet))))
    (λ u past. done-appended e k m u x next (entry.Free y) (Free y ∷ m.history) past.here code leads (free-none e m x next a does (told true (sym is ∙ past.met))) refl)
frees-object e k m s x next y offset false h code leads wide does told =
    let a = address_under e.input (record { base = Object y; offset = offset }) in
    fails-along e k m s fault.BadFree h (free-fault e m x next a fault.BadFree code does (told (bits_under e.input offset == 0) refl))

frees-living : (e : Scene) (k : ℕ) (m : machine.State) (s : State) (x : Node) (next : NodeId) (living : Living) (y : ObjectName) (offset : Tree) → IsHere e k m s → StandsThere e m x → slice_get (successors_of x) 0 ≡ Some next → IsTermOf (length e.input) 64 offset
    → LifeIs e.c.program e.input y m.history living → FreesAt e m x next (address_under e.input (record { base = Object y; offset = offset }))
    → AnswerGoesAlong e (frees_alive e.c living y offset s)
frees-living e k m s x next Dead y offset h code leads wide lives does =
    let p = e.c.program in
    fails-along e k m s fault.UseAfterFree h (free-fault e m x next (address_under e.input (record { base = Object y; offset = offset })) fault.UseAfterFree code does
    (ap (λ b. cond (not b) (Some fault.UseAfterFree) (cond (made_by_malloc p y && (bits_under e.input offset == 0)) None (Some fault.BadFree))) lives))
frees-living e k m s x next (Alive size) y offset h code leads wide lives does =
    let p = e.c.program in
    frees-object e k m s x next y offset (made_by_malloc p y) h code leads wide does
    (λ start is. ap (λ b. cond (not b) (Some fault.UseAfterFree) (cond (made_by_malloc p y && (bits_under e.input offset == 0)) None (Some fault.BadFree))) lives.0
    ∙ ap (λ b. cond (made_by_malloc p y && b) None (Some fault.BadFree)) is)

frees-along : (e : Scene) (k : ℕ) (m : machine.State) (s : State) (x : Node) (next : NodeId) (base : Base) (offset : Tree) → IsHere e k m s → StandsThere e m x → slice_get (successors_of x) 0 ≡ Some next → IsTermOf (length e.input) 64 offset
    → ((y : ObjectName) → IsOnce y m.history) → FreesAt e m x next (address_under e.input (record { base = base; offset = offset }))
    → AnswerGoesAlong e (frees_base e.c base offset s)
frees-along e k m s x next Null offset h code leads wide once does = frees-null e k m s x next offset h code leads wide does
frees-along e k m s x next (Object y) offset h code leads wide once does =
    knows-first e k m s (answers.Life y) (λ u. frees_alive e.c (life u.memory.globals y u.memory.log) y offset u) h
    (frees-living e k m s x next (life s.memory.globals y s.memory.log) y offset h code leads wide (life-along e k m s y h (once y)) does)

pub free-along : (e : Scene) (k : ℕ) (m : machine.State) (s : State) (pointer : Operand) (next : NodeId) → IsHere e k m s → StandsThere e m (node.Free pointer next)
    → AnswerGoesAlong e (executes e.c (node.Free pointer next) s)
free-along e k m s pointer next h code =
    let at = is-at e k m s (node.Free pointer next) h code in
    let p = address_in s pointer in
    firm-first e k m s (pointer ∷ []) (λ u. frees e.c (address_in u pointer) u) h
    (frees-along e k m s (node.Free pointer next) next p.base p.offset h code refl (address_in-fits (length e.input) s pointer h.state.fits at.fits.operands.0) at.once
    (ap (λ a. unless (free_fault e.c.program m.history a) (begun m) (steps.to next (steps.with_history (freed_in a m.history) (begun m)))) (address-along e k m s pointer h at.given.0)))

-- ---- loads

-- the run's attempt of a load of the type
abbrev LoadsAt : Scene → machine.State → Node → RegId → NodeId → RegType → Address → Type 0
LoadsAt e m x result next t a = Attempts e m x (unless (access_fault e.c.program m.history (bytes_of_type t) a) (begun m) (gives_loaded (steps.loaded e.c.program m.history a t) result next (begun m)))

load-at : (e : Scene) (k : ℕ) (m : machine.State) (s : State) (pointer : Operand) (result : RegId) (next : NodeId) → IsHere e k m s → IsGiven s pointer
    → LoadsAt e m (node.Load pointer result next) result next (machine.type_at e.c.program s.frame.func result) (address_under e.input (address_in s pointer))
load-at e k m s pointer result next h given =
    let p = e.c.program in
    let func = (alike e.input s m h.agrees).frame.func in
    let there = address-along e k m s pointer h given in
    (λ i. unless (access_fault p m.history (bytes_of_type (machine.type_at p (func i) result)) (there i)) (begun m) (gives_loaded (steps.loaded p m.history (there i) (machine.type_at p (func i) result)) result next (begun m)))

-- the address of what is reached
abbrev address_of : Scene → Reached → Address
address_of e r = record { base = Some r.object; offset = bits_under e.input r.offset }

reached-there : (e : Scene) (k : ℕ) (m : machine.State) (s : State) (count : ℕ) (p : Pointer) (r : Reached) → IsReached e k m s count p r → address_under e.input p ≡ address_of e r
reached-there e k m s count p r h = (λ i. record { base = base_under (h.base i); offset = bits_under e.input (h.offset i) })

reached-readable : (e : Scene) (k : ℕ) (m : machine.State) (s : State) (count : ℕ) (p : Pointer) (r : Reached) → IsReached e k m s count p r → IsTermOf (length e.input) 64 p.offset → ((y : ObjectName) → IsBorn y m.history) → count ≤ 8
    → IsReadable e m r.object r.offset count
reached-readable e k m s count p r h wide born few = record { wide = subst (IsTermOf (length e.input) 64) h.offset wide; born = born r.object; few = few }

length-first : {A : Type 0} (n k : ℕ) (f : ℕ → A) → length (first_of n k f) ≡ n
length-first zero k f = refl
length-first (suc n) k f = ap suc (length-first n (k + 1) f)

-- the value that was loaded
record IsLoaded (e : Scene) (k : ℕ) (m : machine.State) (t : RegType) (a : Address) (v : Valued) : Type 0 where
  pub here : IsHere e k m v.state
  pub is : steps.loaded e.c.program m.history a t ≡ Some (value_under e.input [] v.value)

-- the value is shown, and set
loaded-along : (e : Scene) (k : ℕ) (m : machine.State) (x : Node) (result : RegId) (next : NodeId) (t : RegType) (a : Address) (v : Valued) → StandsThere e m x → slice_get (successors_of x) 0 ≡ Some next
    → Attempts e m x (gives_loaded (steps.loaded e.c.program m.history a t) result next (begun m)) → IsLoaded e k m t a v → AnswerGoesAlong e (loaded e.c result v)
loaded-along e k m x result next t a v code leads does h =
    let u = v.state in
    let w = value_under e.input [] v.value in
    let event = leaf.Load u.frame.func (here u) v.value in
    let shows = Loaded m.frame.func m.frame.node w in
    let same = alike e.input u m h.here.agrees in
    done-along e k m u (shown event u) x (Some result) (Some v.value) w next m.history (m.events ++ shows ∷ []) h.here code leads refl
    (alike-loaded e.input event shows u m same refl (λ i. Loaded (same.frame.func i) (node_of (sym same.frame.place i)) w))
    (does ∙ ap (λ o. gives_loaded o result next (begun m)) h.is)

loads-along : (e : Scene) (k : ℕ) (m : machine.State) (x : Node) (result : RegId) (next : NodeId) (t : RegType) (r : Reached) → IsHere e k m r.state → StandsThere e m x → slice_get (successors_of x) 0 ≡ Some next
    → is_scalar t ≡ true → IsShortType t → IsReadable e m r.object r.offset (bytes_of_type t)
    → Attempts e m x (gives_loaded (steps.loaded e.c.program m.history (address_of e r) t) result next (begun m)) → AnswerGoesAlong e (loads e.c result t r)
loads-along e k m x result next t r h code leads scalar short readable does =
    let p = e.c.program in
    let count = bytes_of_type t in
    let a = address_of e r in
    let Has : ReadBytes → Type 0 = HasRead e k m r.state r.object r.offset 0 count in
    let Is : Valued → Type 0 = IsLoaded e k m t a in
    then-step-along e Is (then_flow (reads e.c count r) (join_read e.c t)) (loaded e.c result)
    (then-flow-along e Has Is (reads e.c count r) (join_read e.c t) (reads-along e k m count r h readable)
    (λ read has_read.
    let bytes = map (byte_under e.input []) read.bytes in
    let same : joined t bytes ≡ steps.loaded p m.history a t = ap (joined t) has_read.are in
    let size = sym (length-map read.bytes (byte_under e.input [])) ∙ ap length has_read.are ∙ length-first count 0 (byte_there p m.history a) in
    flow-weaker e (HasJoined e k m read.state t bytes) Is (join_read e.c t read) (λ v joins. record { here = joins.behind.here; is = sym same ∙ joins.is })
    (join_read-along e k m t read has_read.behind.here has_read.fits has_read.firm scalar short size
    (λ mixed. fault-along e m x fault.MixedBytes code (does ∙ ap (λ o. gives_loaded o result next (begun m)) (sym same ∙ mixed))))))
    (λ v is. loaded-along e k m x result next t a v code leads does is)

small : (count : ℕ) → count ≤ 8 → count < 2 ^ 64
small count few = omega (arith, few)

pub load-along : (e : Scene) (k : ℕ) (m : machine.State) (s : State) (pointer : Operand) (result : RegId) (next : NodeId) → IsHere e k m s → StandsThere e m (node.Load pointer result next)
    → AnswerGoesAlong e (executes e.c (node.Load pointer result next) s)
load-along e k m s pointer result next h code =
    let x = node.Load pointer result next in
    let at = is-at e k m s x h code in
    let p = e.c.program in
    let t = machine.type_at p s.frame.func result in
    let regs = regs_of (func_at p m.frame.func) in
    let scalar : is_scalar t ≡ true = subst (λ f. is_scalar (machine.type_at p f result) ≡ true) (alike e.input s m h.agrees).frame.func (both (has regs pointer type.Ptr) (is_scalar (checks.type_at regs result)) at.typed).1 in
    let short = type_at-short p s.frame.func result e.plain.program.regs in
    let there = address_in s pointer in
    let wide = address_in-fits (length e.input) s pointer h.state.fits at.fits.operands.0 in
    let does = load-at e k m s pointer result next h at.given.0 in
    let o = access_fault p m.history (bytes_of_type t) (address_under e.input there) in
    let rest = gives_loaded (steps.loaded p m.history (address_under e.input there) t) result next (begun m) in
    firm-first e k m s (pointer ∷ []) (λ u. loads_at e.c pointer result (machine.type_at p u.frame.func result) u) h
    (then-step-along e (IsReached e k m s (bytes_of_type t) there) (access e.c (bytes_of_type t) there s) (loads e.c result t)
    (access-along e k m s (bytes_of_type t) there h at.once (small (bytes_of_type t) short) wide (tests-fault e m x o rest code does))
    (λ r reached. loads-along e k m x result next t r reached.behind.here code refl scalar short (reached-readable e k m s (bytes_of_type t) there r reached wide at.born short)
    (does ∙ unless-none o (begun m) rest reached.none ∙ ap (λ a. gives_loaded (steps.loaded p m.history a t) result next (begun m)) (reached-there e k m s (bytes_of_type t) there r reached))))

-- ---- stores

-- the run's attempt of a store of the value
abbrev StoresAt : Scene → machine.State → Node → NodeId → ℕ → Address → ConcreteValue → Type 0
StoresAt e m x next count a w = Attempts e m x (unless (access_fault e.c.program m.history count a) (begun m) (steps.to next (steps.with_history (stored_in count 0 a w m.history) (begun m))))

store-at : (e : Scene) (k : ℕ) (m : machine.State) (s : State) (value pointer : Operand) (next : NodeId) → IsHere e k m s → IsGiven s value → IsGiven s pointer → ValueFits (length e.input) (value_in s value)
    → StoresAt e m (node.Store value pointer next) next (bytes_of_value (value_in s value)) (address_under e.input (address_in s pointer)) (value_under e.input [] (value_in s value))
store-at e k m s value pointer next h given there fits =
    let p = e.c.program in
    let v = value-along e k m s value h given in
    let a = address-along e k m s pointer h there in
    let size = size-along e.input [] (length e.input) (value_in s value) (value_in-firm s value h.state.no_calls) fits in
    (λ i. unless (access_fault p m.history (registers.bytes_of_value (v i)) (a i)) (begun m) (steps.to next (steps.with_history (stored_in (registers.bytes_of_value (v i)) 0 (a i) (v i) m.history) (begun m))))
    ∙ (λ i. unless (access_fault p m.history (size i) (address_under e.input (address_in s pointer))) (begun m) (steps.to next (steps.with_history (stored_in (size i) 0 (address_under e.input (address_in s pointer)) (value_under e.input [] (value_in s value)) m.history) (begun m))))

pub store-along : (e : Scene) (k : ℕ) (m : machine.State) (s : State) (value pointer : Operand) (next : NodeId) → IsHere e k m s → StandsThere e m (node.Store value pointer next)
    → AnswerGoesAlong e (executes e.c (node.Store value pointer next) s)
store-along e k m s value pointer next h code =
    let x = node.Store value pointer next in
    let at = is-at e k m s x h code in
    let p = e.c.program in
    let regs = regs_of (func_at p m.frame.func) in
    let t = type_of regs value in
    let scalar = (both (is_scalar t) (has regs pointer type.Ptr) at.typed).0 in
    let v = value_in s value in
    let w = value_under e.input [] v in
    let firm = value_in-firm s value h.state.no_calls in
    let fits = value_in-fits (length e.input) s value h.state.fits at.fits.operands.0 in
    let typed : HasType t w = subst (HasType t) (operand-along e k m s value h at.given.0) (operand_has p m.frame value at.holds) in
    let count = bytes_of_value v in
    let there = address_in s pointer in
    let a = address_under e.input there in
    let does = store-at e k m s value pointer next h at.given.0 at.given.1.0 fits.fits in
    let after : Address → History = λ b. stored_in count 0 b w m.history in
    let rest = steps.to next (steps.with_history (after a) (begun m)) in
    let o = access_fault p m.history count a in
    firm-first e k m s (pointer ∷ []) (stores_at e.c value pointer) h
    (then-step-along e (IsReached e k m s count there) (access e.c count there s) (writes e.c (stored_bytes v))
    (access-along e k m s count there h at.once (small count (bytes_of_value-few (length e.input) v fits)) (address_in-fits (length e.input) s pointer h.state.fits at.fits.operands.1.0) (tests-fault e m x o rest code does))
    (λ r reached. done-appended e k m r.state x next (entry.Write r.object r.offset (stored_bytes v)) (after (address_of e r)) reached.behind.here code refl
    (does ∙ unless-none o (begun m) rest reached.none ∙ ap (λ b. steps.to next (steps.with_history (after b) (begun m))) (reached-there e k m s count there r reached))
    (writes-along e.input [] r.object (bits_under e.input r.offset) count 0 (stored_bytes v) w m.history (stored-along e.input [] (length e.input) t v firm fits.fits scalar typed))))

-- ---- copies

-- the run's attempt of a copy
abbrev CopiesAt : Scene → machine.State → Node → NodeId → Address → Address → Type 0
CopiesAt e m x next a b = Attempts e m x (unless (access_fault e.c.program m.history 1 a) (begun m) (unless (access_fault e.c.program m.history 1 b) (begun m)
    (steps.to next (steps.with_history (written_in b (byte_there e.c.program m.history a 0) 0 m.history) (begun m)))))

one-write : (input : List ℕ) (x : ObjectName) (u : ℕ) (bs : List SymByte) (b : ConcreteByte) (h : History) → map (byte_under input []) bs ≡ b ∷ [] → writes_under input [] x u 0 bs ++ h ≡ Write x ((u + 0) % 2 ^ 64) b ∷ h
one-write input x u [] b h is = cc
one-write input x u (d ∷ []) b h is =
    let same : byte_under input [] d ≡ b = cc in
    ap (λ c. Write x ((u + 0) % 2 ^ 64) c ∷ h) same
one-write input x u (d ∷ c ∷ bs) b h is = cc

pub copy-along : (e : Scene) (k : ℕ) (m : machine.State) (s : State) (from there : Operand) (next : NodeId) → IsHere e k m s → StandsThere e m (node.Copy from there next)
    → AnswerGoesAlong e (executes e.c (node.Copy from there next) s)
copy-along e k m s from there next h code =
    let x = node.Copy from there next in
    let at = is-at e k m s x h code in
    let p = e.c.program in
    let n = length e.input in
    let a = address_under e.input (address_in s from) in
    let b = address_under e.input (address_in s there) in
    let one : 1 < 2 ^ 64 = lit≤ tt in
    let wide = address_in-fits n s from h.state.fits at.fits.operands.0 in
    let wide_there = address_in-fits n s there h.state.fits at.fits.operands.1.0 in
    let written : Address → Address → machine.Run = λ from_there to_there. steps.to next (steps.with_history (written_in to_there (byte_there p m.history from_there 0) 0 m.history) (begun m)) in
    let second : Address → machine.Run = λ from_there. unless (access_fault p m.history 1 b) (begun m) (written from_there b) in
    let first = access_fault p m.history 1 a in
    let does : Attempts e m x (unless first (begun m) (second a))
    = (let left = address-along e k m s from h at.given.0 in
    let right = address-along e k m s there h at.given.1.0 in
    (λ i. unless (access_fault p m.history 1 (left i)) (begun m) (unless (access_fault p m.history 1 (right i)) (begun m) (written (left i) (right i))))) in
    let Has : ReadBytes → Type 0 = λ r. (y : ObjectName) × (offset : Tree) × (first ≡ None) × (a ≡ record { base = Some y; offset = bits_under e.input offset }) × HasRead e k m s y offset 0 1 r in
    firm-first e k m s (from ∷ there ∷ []) (copies_from e.c from there) h
    (then-step-along e Has (then_flow (access e.c 1 (address_in s from) s) (reads e.c 1)) (copies e.c (address_in s there))
    (then-flow-along e (IsReached e k m s 1 (address_in s from)) Has (access e.c 1 (address_in s from) s) (reads e.c 1)
    (access-along e k m s 1 (address_in s from) h at.once one wide (tests-fault e m x first (second a) code does))
    (λ r reached. flow-weaker e (HasRead e k m r.state r.object r.offset 0 1) Has (reads e.c 1 r)
    (λ read has_read. (r.object, r.offset, reached.none, reached-there e k m s 1 (address_in s from) r reached, read-behind e k m s r.state r.object r.offset 0 1 read reached.behind has_read))
    (reads-along e k m 1 r reached.behind.here (reached-readable e k m s 1 (address_in s from) r reached wide at.born (lit≤ tt)))))
    (λ read has_read.
    let now : Attempts e m x (second (record { base = Some has_read.0; offset = bits_under e.input has_read.1 })) = does ∙ unless-none first (begun m) (second a) has_read.2 ∙ ap second has_read.3 in
    let o = access_fault p m.history 1 b in
    let there_read : Address = record { base = Some has_read.0; offset = bits_under e.input has_read.1 } in
    then-step-along e (IsReached e k m read.state 1 (address_in s there)) (access e.c 1 (address_in s there) read.state) (writes e.c read.bytes)
    (access-along e k m read.state 1 (address_in s there) has_read.4.behind.here at.once one wide_there (tests-fault e m x o (written there_read b) code now))
    (λ r reached. done-appended e k m r.state x next (entry.Write r.object r.offset read.bytes) (written_in (address_of e r) (byte_there p m.history there_read 0) 0 m.history) reached.behind.here code refl
    (now ∙ unless-none o (begun m) (written there_read b) reached.none ∙ ap (written there_read) (reached-there e k m read.state 1 (address_in s there) r reached))
    (one-write e.input r.object (bits_under e.input r.offset) read.bytes (byte_there p m.history there_read 0) m.history has_read.4.are))))

-- ---- input and output

word_width : IsWidth 32
word_width = record { least = lit≤ tt; most = lit≤ tt }

at-byte : (i : List ℕ) (k : ℕ) → k < length i → Each (λ b. b < 256) i → steps.unsigned_byte (slice_get i k) ≡ (byte_of i k).bits
at-byte [] k h all = absurd (omega (arith, h))
at-byte (b ∷ i) zero h all = sym (mod-eq_of_lt all.0)
at-byte (b ∷ i) (suc k) h all = at-byte i k (omega (arith, h)) all.1

-- what the term of the next byte stands for
read-bits : (i : List ℕ) (k : ℕ) → IsInput (length i) i → length i ≤ 64 → steps.unsigned_byte (slice_get i k) ≡ bits_under i (input_at (length i) k)
read-bits i k is most = by-test (cases_Bool (nat_lt k (length i)))
  where
    told : Bool → Tree
    told below = cond below (folded_one (Zext 32) (tree.input k)) (number 32 (2 ^ 32 - 1))

    by-test : ((nat_lt k (length i) ≡ true) ⊎ (nat_lt k (length i) ≡ false)) → steps.unsigned_byte (slice_get i k) ≡ bits_under i (input_at (length i) k)
    by-test (inl e) =
        let below : k < length i = leb-true (suc k) (length i) e in
        let in_range : k < 64 = omega (arith, below, most) in
        at-byte i k below (recursion_from_All (λ b. b < 256) i is.1) ∙ sym (ap (λ w. w.bits) (value-folded_one (Zext 32) (tree.input k) i (in_range, (word_width, lit≤ tt)))) ∙ sym (ap (λ below. bits_under i (told below)) e)
    by-test (inr e) =
        ap steps.unsigned_byte (slice_get_past i k (omega (arith, leb-false (suc k) (length i) e))) ∙ sym (ap (λ below. bits_under i (told below)) e)

next-along : (e : Scene) (k : ℕ) (m : machine.State) (s : State) → IsHere e k m s → steps.next_byte e.input m.history ≡ concrete.Int (value_of (input_at (length s.kept) (position s.memory.log)) e.input)
next-along e k m s h =
    let fits = parts_of (length e.input) s h.state.fits in
    let read = position s.memory.log in
    let is : read ≡ history.position m.history = position_law e.input [] none_gave s.memory.log m.history (alike e.input s m h.agrees).log (need-none answers.Input s.memory.log h.state.no_calls.log) in
    let term = input_at-fits (length e.input) read fits.most in
    ap concrete.Int (number_eq (record { width = 32; bits = steps.unsigned_byte (slice_get e.input (history.position m.history)) }) (value_of (input_at (length e.input) read) e.input)
    (sym (width-value_of (input_at (length e.input) read) e.input term.term.tree ∙ term.has_width))
    (ap (λ place. steps.unsigned_byte (slice_get e.input place)) (sym is) ∙ read-bits e.input read e.bytes fits.most))
    ∙ ap (λ n. concrete.Int (value_of (input_at n read) e.input)) (sym fits.size)

pub in-along : (e : Scene) (k : ℕ) (m : machine.State) (s : State) (result : RegId) (next : NodeId) → IsHere e k m s → StandsThere e m (node.In result next)
    → AnswerGoesAlong e (executes e.c (node.In result next) s)
in-along e k m s result next h code =
    knows-first e k m s answers.Input (takes_input e.c result) h
    (done-along e k m s (appended entry.Get s) (node.In result next) (Some result) (Some (value.Int (input_at (length s.kept) (position s.memory.log)))) (steps.next_byte e.input m.history) next (Get ∷ m.history) m.events h code refl
    (next-along e k m s h) (alike-appended e.input entry.Get s m (Get ∷ m.history) (alike e.input s m h.agrees) refl) refl)

pub put-along : (e : Scene) (k : ℕ) (m : machine.State) (s : State) (value : Operand) (next : NodeId) → IsHere e k m s → StandsThere e m (node.Put value next)
    → AnswerGoesAlong e (executes e.c (node.Put value next) s)
put-along e k m s value next h code =
    let x = node.Put value next in
    let at = is-at e k m s x h code in
    let term = term-along e k m s value h at.fits.operands.0 in
    let bits : (steps.number_in (begun m) value).bits % 256 ≡ bits_under e.input (low_byte (number_in s value))
    = ap (λ n. n.bits % 256) (number-along e k m s value h at.given.0)
    ∙ sym (bits-low_byte (length e.input) (number_in s value) e.input term) in
    firm-first e k m s (value ∷ []) (puts e.c value) h
    (done-appended e k m s x next (entry.Put (low_byte (number_in s value))) (Put (bits_under e.input (low_byte (number_in s value))) ∷ m.history) h code refl
    (ap (λ b. steps.to next (steps.with_history (Put b ∷ m.history) (begun m))) bits) refl)
