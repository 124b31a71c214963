-- Each node keeps names, and so does each run.
use Rattle.std.specs.Prelude.{slice_set, reverse, map, drop, nat_lt, ◌==◌, ◌%◌, ◌^◌, if◌then◌else◌}
use Rattle.std.specs.Option.{option_map, option_to_list}
use Rattle.std.proofs.Common.{◌≡◌, ℕ, zero, suc, ◌+◌, ◌<◌, Bool, true, false, not, ◌&&◌, List, [], ◌∷◌, ◌++◌, length, Option, Some, None, refl, sym, ◌∙◌, ap, subst, arith}
use Rattle.std.proofs.lemmas.List.{length-map}
use Rattle.std.proofs.lemmas.List.Elements.{recursion_from_All}
use Rattle.std.specs.List.{AllByRecursion as Each}
use Rattle.flat_ir.specs.declared.names.FuncId.{FuncId}
use Rattle.flat_ir.specs.declared.names.NodeId.{NodeId}
use Rattle.flat_ir.specs.declared.names.RegId.{RegId}
use Rattle.flat_ir.specs.declared.names.ObjectName.{ObjectName}
use Rattle.flat_ir.specs.declared.names.ObjectName.TheVariants.{Global, Made}
use Rattle.flat_ir.specs.declared.nodes.MoveSet.{MoveSet}
use Rattle.flat_ir.specs.declared.nodes.SwitchCase.{SwitchCase}
use Rattle.flat_ir.specs.declared.nodes.Node.{Node}
use Rattle.flat_ir.specs.declared.nodes.Node.TheVariants as node
use Rattle.flat_ir.specs.declared.nodes.Operand.{Operand}
use Rattle.flat_ir.specs.declared.nodes.RegType.{RegType}
use Rattle.flat_ir.specs.declared.nodes.RegType.TheVariants as type
use Rattle.flat_ir.specs.declared.program.Func.{Func}
use Rattle.flat_ir.specs.declared.program.ProgramData.{ProgramData}
use Rattle.flat_ir.specs.declared.values.Address.{Address}
use Rattle.flat_ir.specs.declared.values.ConcreteByte.{ConcreteByte}
use Rattle.flat_ir.specs.declared.values.ConcreteValue.{ConcreteValue}
use Rattle.flat_ir.specs.declared.values.ConcreteValue.TheVariants.{Int, Ptr}
use Rattle.flat_ir.specs.declared.values.FaultKind.{FaultKind}
use Rattle.flat_ir.specs.declared.values.FaultKind.TheVariants as fault
use Rattle.flat_ir.specs.History.{History, Write, Alloc, Free, Get, Put, byte_at, Change, is_alloc_of, size_of, is_alive}
use Rattle.flat_ir.specs.Same.{same_object_refl}
use Rattle.flat_ir.specs.Orderly.{IsKnown, is_made}
use Rattle.flat_ir.specs.Effects.{written_in, stored_in, freed_in}
use Rattle.flat_ir.specs.Registers.{int, null, cut, first_of, zero_of, bytes_of_type, bytes_of_value}
use Rattle.flat_ir.specs.Machine.{Frame, State, Run, On, Over, func_at, nodes_of, regs_of, node_at, type_at, value_in, made_here, start, counted, set_if, at_node}
use Rattle.flat_ir.specs.Steps.{attempt, frees_from, division_fault, number_in, bit, related, cast_to, width_of, moved_by_all, next_byte, unless, with_frame, with_history, to, gives, gives_if, address_in, access_fault, object_fault, byte_there, loaded, gives_loaded, free_fault, freed_object_fault, is_malloc, is_within, set_all, case_of, branches, returns, call_next, call_result, ended, new_here, allocated}
use Rattle.flat_ir.specs.Run.{step, run, goes_on, step-attempt, run-zero, run-suc}
use Rattle.bitnum.specs.Operations.{applied}
use Rattle.std.proofs.lemmas.Option.{slice_get_within, get_or_from_slice_get}
use Rattle.flat_ir.specs.Whole.{IsWhole, IsFuncOf, IsNodeOf, OperandIn, operands_of, successors_of}
use Rattle.flat_ir.specs.MadeNames.{is_alloca, IsFrameOf, IsKnownValue, IsKnownByte, HoldsKnown, HasKnownBytes, KeepsNames, NamesAreKept}
use Rattle.flat_ir.proofs.MadeBasics.{cases, each_map, each_append, each_set, value_more, alive_known, or_right}
use Rattle.flat_ir.proofs.MadeKept.{makes_new, Begun, with_place, begins, ends_at, quiet_change}
use Rattle.flat_ir.proofs.MadeChanges.{none_yet, zero_of_none, ends_with_new, write_is_quiet, get_is_quiet, put_is_quiet, free_is_quiet, new_frame, enters}
use Rattle.flat_ir.proofs.MadeReturns.{leaves}
use Rattle.flat_ir.proofs.MadeSteps.{RunKeeps, operand_known, address_known, cut_known, byte_known, IsKnownOption, joined_known, first_known, node_is, entry_is, func_is}

-- A node is about to be executed: its frame has counted it, and it is a node of the program.
pub record IsReady (p : ProgramData) (n : Node) (s : State) : Type 0 where
  pub whole : IsWhole p
  pub begun : Begun p s.frame s.callers s.history
  pub frame : IsFrameOf p s.frame
  pub at : node_at p s.frame.func s.frame.node ≡ n
  pub node : IsNodeOf (length p.globals) (length p.funcs) (length frame.func.regs) (length frame.func.nodes) n

-- a run that goes on if a test passes
unless_keeps : (p : ProgramData) (o : Option FaultKind) (s : State) (r : Run) → (o ≡ None → RunKeeps p r) → RunKeeps p (unless o s r)
unless_keeps p None s r keeps = keeps refl
unless_keeps p (Some kind) s r keeps = tt

is_no_alloca : (p : ProgramData) (n : Node) (s : State) → IsReady p n s → is_alloca n ≡ false → is_alloca (node_at p s.frame.func s.frame.node) ≡ false
is_no_alloca p n s ready none = ap is_alloca ready.at ∙ none

-- the node's frame at another place
place_is : (p : ProgramData) (f : Frame) (is : IsFrameOf p f) (n : NodeId) (regs : List ConcreteValue) → n.0 < length is.func.nodes → IsFrameOf p (with_place n regs f)
place_is p f is n regs within = record { func = is.func; there = is.there; node = within; counts = is.counts }

-- the successors of a node
leads_within : (p : ProgramData) (n : Node) (s : State) (ready : IsReady p n s) → Each (λ m. m.0 < length ready.frame.func.nodes) (successors_of n)
leads_within p n s ready = recursion_from_All (λ m. m.0 < length ready.frame.func.nodes) (successors_of n) ready.node.successors

-- the values of its operands
reads_known : (p : ProgramData) (h : History) (f : Frame) (regs : ℕ) → HoldsKnown p h f → (as' : List Operand) → Each (OperandIn (length p.globals) regs) as' → Each (λ a. IsKnownValue p h (value_in f a)) as'
reads_known p h f regs known as' all = each_map (OperandIn (length p.globals) regs) (λ a. IsKnownValue p h (value_in f a)) (λ a there. operand_known p h f regs a known there) as' all

reads : (p : ProgramData) (n : Node) (s : State) (ready : IsReady p n s) → Each (λ a. IsKnownValue p s.history (value_in s.frame a)) (operands_of n)
reads p n s ready = reads_known p s.history s.frame (length ready.frame.func.regs) ready.begun.values (operands_of n)
    (recursion_from_All (OperandIn (length p.globals) (length ready.frame.func.regs)) (operands_of n) ready.node.operands)

-- it ends its execution at a successor, with these registers and a history of quiet changes
goes : (p : ProgramData) (n : Node) (s : State) (ready : IsReady p n s) (h : History) (next : NodeId) (regs : List ConcreteValue)
    → Begun p s.frame s.callers h → is_alloca n ≡ false → next.0 < length ready.frame.func.nodes → Each (IsKnownValue p h) regs
    → KeepsNames p (with_place next regs s.frame) s.callers h
goes p n s ready h next regs begun none within known =
    ends_at p s.frame s.callers h next regs begun (is_no_alloca p n s ready none) (place_is p s.frame ready.frame next regs within) known

sets : (p : ProgramData) (n : Node) (s : State) (ready : IsReady p n s) (r : RegId) (v : ConcreteValue) (next : NodeId)
    → is_alloca n ≡ false → next.0 < length ready.frame.func.nodes → IsKnownValue p s.history v
    → KeepsNames p (with_place next (slice_set s.frame.regs r.0 v) s.frame) s.callers s.history
sets p n s ready r v next none within known =
    goes p n s ready s.history next (slice_set s.frame.regs r.0 v) ready.begun none within (each_set (IsKnownValue p s.history) s.frame.regs r.0 v ready.begun.values known)

leads : (p : ProgramData) (n : Node) (s : State) (ready : IsReady p n s) (next : NodeId)
    → is_alloca n ≡ false → next.0 < length ready.frame.func.nodes → KeepsNames p (with_place next s.frame.regs s.frame) s.callers s.history
leads p n s ready next none within = goes p n s ready s.history next s.frame.regs ready.begun none within ready.begun.values

-- it ends its execution with a new object
makes : (p : ProgramData) (n : Node) (s : State) (ready : IsReady p n s) (size : ℕ) (next : NodeId) (regs : List ConcreteValue)
    → next.0 < length ready.frame.func.nodes → Each (IsKnownValue p (Alloc (made_here s.frame) size ∷ s.history)) regs
    → KeepsNames p (with_place next regs s.frame) s.callers (Alloc (made_here s.frame) size ∷ s.history)
makes p n s ready size next regs within known =
    ends_with_new p s.frame s.callers s.history size next regs ready.begun (place_is p s.frame ready.frame next regs within) known

-- registers stay known, and the new object's address is
still_known : (p : ProgramData) (f : Frame) (size : ℕ) (h : History) → HoldsKnown p h f → Each (IsKnownValue p (Alloc (made_here f) size ∷ h)) f.regs
still_known p f size h known = each_map (IsKnownValue p h) (IsKnownValue p (Alloc (made_here f) size ∷ h)) (value_more p (Alloc (made_here f) size) h) f.regs known

new_known : (p : ProgramData) (s : State) (size : ℕ) → IsKnownValue p (Alloc (made_here s.frame) size ∷ s.history) (new_here s)
new_known p s size = rw (same_object_refl (made_here s.frame)) refl

malloc_keeps : (p : ProgramData) (n : Node) (s : State) (ready : IsReady p n s) (size : ℕ) (next : NodeId) (result : Option RegId)
    → next.0 < length ready.frame.func.nodes → RunKeeps p (gives_if result (new_here s) next (allocated size s))
malloc_keeps p n s ready size next None within = makes p n s ready size next s.frame.regs within (still_known p s.frame size s.history ready.begun.values)
malloc_keeps p n s ready size next (Some r) within =
    makes p n s ready size next (slice_set s.frame.regs r.0 (new_here s)) within
    (each_set (IsKnownValue p (Alloc (made_here s.frame) size ∷ s.history)) s.frame.regs r.0 (new_here s) (still_known p s.frame size s.history ready.begun.values) (new_known p s size))

null_keeps : (p : ProgramData) (n : Node) (s : State) (ready : IsReady p n s) (next : NodeId) (result : Option RegId)
    → is_alloca n ≡ false → next.0 < length ready.frame.func.nodes → RunKeeps p (gives_if result (Ptr null) next s)
null_keeps p n s ready next None none within = leads p n s ready next none within
null_keeps p n s ready next (Some r) none within = sets p n s ready r (Ptr null) next none within tt

-- an access that passes its tests is of an object that is alive
alive_of_access : (alive within : Bool) → (if not alive then Some fault.UseAfterFree else (if within then None else Some fault.OutOfBounds)) ≡ None → alive ≡ true
alive_of_access true within e = refl
alive_of_access false within e = cc

-- the object of an address is there
abbrev IsThere : History → Option ObjectName → Type 0
IsThere h None = ⊥
IsThere h (Some x) = IsKnown x h

abbrev access_fault_at : ProgramData → History → ℕ → ℕ → Option ObjectName → Option FaultKind
access_fault_at p h n offset base = elim base [ None ↦ Some fault.NullAccess | Some x ↦ object_fault p h x offset n ]

reached : (p : ProgramData) (h : History) (n offset : ℕ) (base : Option ObjectName)
    → access_fault_at p h n offset base ≡ None → IsThere h base
reached p h n offset None e = cc
reached p h n offset (Some x) e = alive_known x h (alive_of_access (is_alive x h) (is_within offset n (size_of p x h)) e)

known_more : (c : Change) (h : History) (x : ObjectName) → IsKnown x h → IsKnown x (c ∷ h)
known_more c h (Global g) known = tt
known_more c h (Made frame made) known = or_right (is_alloc_of (Made frame made) c) (is_made (Made frame made) h) known

-- writing a known byte is quiet
writes : (p : ProgramData) (f : Frame) (fs : List Frame) (h : History) (base : Option ObjectName) (place : ℕ) (b : ConcreteByte)
    → Begun p f fs h → IsThere h base → IsKnownByte p h b → Begun p f fs (elim base [ None ↦ h | Some x ↦ Write x place b ∷ h ])
writes p f fs h None place b begun there known = absurd there
writes p f fs h (Some x) place b begun there known =
    quiet_change p f fs h (Write x place b) begun (write_is_quiet p h x place b begun.orderly begun.bytes there known)

there_more : (h : History) (base other : Option ObjectName) (place : ℕ) (b : ConcreteByte) → IsThere h base → IsThere (elim other [ None ↦ h | Some x ↦ Write x place b ∷ h ]) base
there_more h base None place b there = there
there_more h None (Some x) place b there = absurd there
there_more h (Some y) (Some x) place b there = known_more (Write x place b) h y there

value_still : (p : ProgramData) (h : History) (v : ConcreteValue) (other : Option ObjectName) (place : ℕ) (b : ConcreteByte)
    → IsKnownValue p h v → IsKnownValue p (elim other [ None ↦ h | Some x ↦ Write x place b ∷ h ]) v
value_still p h v None place b known = known
value_still p h v (Some x) place b known = value_more p (Write x place b) h v known

stores : (p : ProgramData) (f : Frame) (fs : List Frame) (a : Address) (v : ConcreteValue) (n j : ℕ) (h : History)
    → Begun p f fs h → IsThere h a.base → IsKnownValue p h v → Begun p f fs (stored_in n j a v h)
stores p f fs a v zero j h begun there known = begun
stores p f fs a v (suc n) j h begun there known =
    stores p f fs a v n (j + 1) (written_in a (cut v j) j h)
    (writes p f fs h a.base ((a.offset + j) % 2 ^ 64) (cut v j) begun there (cut_known p h v j known))
    (there_more h a.base a.base ((a.offset + j) % 2 ^ 64) (cut v j) there)
    (value_still p h v a.base ((a.offset + j) % 2 ^ 64) (cut v j) known)

-- the byte behind an address is known
there_known : (p : ProgramData) (h : History) (base : Option ObjectName) (place : ℕ) → IsWhole p → HasKnownBytes p h
    → IsKnownByte p h (elim base [ None ↦ cut (int 8 0) 0 | Some x ↦ byte_at p h x place ])
there_known p h None place whole bytes = tt
there_known p h (Some x) place whole bytes = byte_known p h x place whole bytes

-- a load
loads : (p : ProgramData) (n : Node) (s : State) (ready : IsReady p n s) (o : Option ConcreteValue) (r : RegId) (next : NodeId)
    → is_alloca n ≡ false → next.0 < length ready.frame.func.nodes → IsKnownOption p s.history o → RunKeeps p (gives_loaded o r next s)
loads p n s ready None r next none within known = tt
loads p n s ready (Some v) r next none within known = sets p n s ready r v next none within known

-- a free
malloc_and_alive : (alive malloc at_start : Bool)
    → (if not alive then Some fault.UseAfterFree else (if malloc && at_start then None else Some fault.BadFree)) ≡ None → (alive ≡ true) × (malloc ≡ true)
malloc_and_alive true true at_start e = (refl, refl)
malloc_and_alive true false at_start e = cc
malloc_and_alive false malloc at_start e = cc

abbrev free_fault_at : ProgramData → History → ℕ → Option ObjectName → Option FaultKind
free_fault_at p h offset base = elim base [ None ↦ (if offset == 0 then None else Some fault.BadFree) | Some x ↦ freed_object_fault p h x offset ]

frees : (p : ProgramData) (f : Frame) (fs : List Frame) (h : History) (offset : ℕ) (base : Option ObjectName) → Begun p f fs h
    → free_fault_at p h offset base ≡ None
    → Begun p f fs (elim base [ None ↦ h | Some x ↦ Free x ∷ h ])
frees p f fs h offset None begun e = begun
frees p f fs h offset (Some (Global g)) begun e = let parts = malloc_and_alive true false (offset == 0) e in cc
frees p f fs h offset (Some (Made frame made)) begun e =
    let parts = malloc_and_alive (is_alive (Made frame made) h) (is_malloc (node_at p made.func made.node)) (offset == 0) e in
    quiet_change p f fs h (Free (Made frame made)) begun (free_is_quiet p h frame made begun.orderly begun.bytes parts.0 parts.1)

freed_known : (p : ProgramData) (h : History) (base : Option ObjectName) (v : ConcreteValue) → IsKnownValue p h v → IsKnownValue p (elim base [ None ↦ h | Some x ↦ Free x ∷ h ]) v
freed_known p h None v known = known
freed_known p h (Some x) v known = value_more p (Free x) h v known

-- a switch
case_within : (v k nodes : ℕ) (cs : List SwitchCase) (otherwise : NodeId) → Each (λ m. m.0 < nodes) (map (λ c. c.to) cs ++ otherwise ∷ []) → (case_of v k cs otherwise).1.0 < nodes
case_within v k nodes [] otherwise all = all.0
case_within v k nodes (c ∷ cs) otherwise all =
    elim (c.number.bits == v) as (λ t. (if t then (k, c.to) else case_of v (k + 1) cs otherwise).1.0 < nodes) [
      | true ↦ all.0
      | false ↦ case_within v (k + 1) nodes cs otherwise all.1
    ]

-- moves
moves : (p : ProgramData) (n : Node) (s : State) (ready : IsReady p n s) (next : NodeId) (ms : List MoveSet) (regs : List ConcreteValue)
    → is_alloca n ≡ false → next.0 < length ready.frame.func.nodes → Each (λ a. IsKnownValue p s.history (value_in s.frame a)) (map (λ m. m.value) ms)
    → Each (IsKnownValue p s.history) regs
    → KeepsNames p (at_node next (set_all s.frame ms (with_place s.frame.node regs s.frame))) s.callers s.history
moves p n s ready next [] regs none within values known = goes p n s ready s.history next regs ready.begun none within known
moves p n s ready next (m ∷ ms) regs none within values known =
    moves p n s ready next ms (slice_set regs m.register.0 (value_in s.frame m.value)) none within values.1
    (each_set (IsKnownValue p s.history) regs m.register.0 (value_in s.frame m.value) known values.0)

-- the registers of the frame that a call makes
args_known : (p : ProgramData) (h : History) (f : Frame) (as' : List Operand) → Each (λ a. IsKnownValue p h (value_in f a)) as' → Each (IsKnownValue p h) (map (value_in f) as')
args_known p h f [] all = tt
args_known p h f (a ∷ as') all = (all.0, args_known p h f as' all.1)

zeros_known : (p : ProgramData) (h : History) (ts : List RegType) → Each (IsKnownValue p h) (map zero_of ts)
zeros_known p h [] = tt
zeros_known p h (type.Int w ∷ ts) = (tt, zeros_known p h ts)
zeros_known p h (type.Ptr ∷ ts) = (tt, zeros_known p h ts)

-- the frame that a call makes is the program's
entered_is : (p : ProgramData) (callee : FuncId) (regs : List ConcreteValue) (f : Frame) → IsWhole p → callee.0 < length p.funcs → IsFrameOf p (new_frame p callee regs f)
entered_is p callee regs f whole within =
    let entry = entry_is p callee regs f whole within in
    record {
      func = entry.0;
      there = entry.1;
      node = entry.2;
      counts = length-map (nodes_of (func_at p callee)) none_yet ∙ ap (λ o. length (nodes_of o)) entry.1;
    }

-- the caller goes on behind its call
next_within : (globals funcs regs nodes : ℕ) (n : Node) → 0 < nodes → IsNodeOf globals funcs regs nodes n → (call_next n).0 < nodes
next_within globals funcs regs nodes (node.Call callee args result next) some is = (recursion_from_All (λ m. m.0 < nodes) (next ∷ []) is.successors).0
next_within globals funcs regs nodes _ some is = some

caller_is : (p : ProgramData) (g : Frame) (regs : List ConcreteValue) → IsWhole p → IsFrameOf p g → IsFrameOf p (with_place (call_next (node_at p g.func g.node)) regs g)
caller_is p g regs whole is =
    place_is p g is (call_next (node_at p g.func g.node)) regs
    (next_within (length p.globals) (length p.funcs) (length is.func.regs) (length is.func.nodes) (node_at p g.func g.node) (func_is p g whole is).nonempty (node_is p g whole is))

returns_keep : (p : ProgramData) (n : Node) (f : Frame) (callers : List Frame) (h : History) (v : Option ConcreteValue) (s : State)
    → IsWhole p → Begun p f callers h → is_alloca (node_at p f.func f.node) ≡ false → IsKnownOption p h v
    → s.history ≡ reverse (frees_from f 0 (nodes_of (func_at p f.func))) ++ h → RunKeeps p (returns p v callers s)
returns_keep p n f [] h v s whole begun none known is = tt
returns_keep p n f (g ∷ gs) h None s whole begun none known is =
    let call = node_at p g.func g.node in
    let K : History → Type 0 = KeepsNames p (with_place (call_next call) g.regs g) gs in
    subst K (sym is) (leaves p f g gs h (call_next call) g.regs begun none (caller_is p g g.regs whole begun.frames.0) begun.caller_values.0)
returns_keep p n f (g ∷ gs) h (Some v) s whole begun none known is =
    let call = node_at p g.func g.node in
    elim (call_result call) as (λ r. KeepsNames p (at_node (call_next call) (set_if r v g)) gs s.history) [
      | None ↦
          let K : History → Type 0 = KeepsNames p (with_place (call_next call) g.regs g) gs in
          subst K (sym is) (leaves p f g gs h (call_next call) g.regs begun none (caller_is p g g.regs whole begun.frames.0) begun.caller_values.0)
      | Some r ↦
          let regs : List ConcreteValue = slice_set g.regs r.0 v in
          let K : History → Type 0 = KeepsNames p (with_place (call_next call) regs g) gs in
          subst K (sym is) (leaves p f g gs h (call_next call) regs begun none (caller_is p g regs whole begun.frames.0)
          (each_set (IsKnownValue p h) g.regs r.0 v begun.caller_values.0 known))
    ]

value_option : (p : ProgramData) (h : History) (f : Frame) (value : Option Operand) → Each (λ a. IsKnownValue p h (value_in f a)) (option_to_list value) → IsKnownOption p h (option_map (value_in f) value)
value_option p h f None all = tt
value_option p h f (Some a) all = all.0

-- what executing a node keeps
pub attempt_keeps : (p : ProgramData) (input : List ℕ) (n : Node) (s : State) → IsReady p n s → RunKeeps p (attempt p input n s)
attempt_keeps p input (node.Bin op a b result next) s ready =
    let n : Node = node.Bin op a b result next in
    unless_keeps p (division_fault op (number_in s a) (number_in s b)) s (gives result (Int (applied op (number_in s a) (number_in s b))) next s)
    (λ _. sets p n s ready result (Int (applied op (number_in s a) (number_in s b))) next refl (leads_within p n s ready).0 tt)
attempt_keeps p input (node.Cmp pr a b result next) s ready =
    let n : Node = node.Cmp pr a b result next in
    sets p n s ready result (bit (related pr (value_in s.frame a) (value_in s.frame b))) next refl (leads_within p n s ready).0 tt
attempt_keeps p input (node.Cast op a result next) s ready =
    let n : Node = node.Cast op a result next in
    sets p n s ready result (Int (cast_to op (width_of (type_at p s.frame.func result)) (number_in s a))) next refl (leads_within p n s ready).0 tt
attempt_keeps p input (node.Gep base parts result next) s ready =
    let n : Node = node.Gep base parts result next in
    sets p n s ready result (Ptr (record { base = (address_in s base).base; offset = moved_by_all s (address_in s base).offset parts })) next refl (leads_within p n s ready).0
    (address_known p s.history (value_in s.frame base) (reads p n s ready).0)
attempt_keeps p input (node.Select condition a b result next) s ready =
    let n : Node = node.Select condition a b result next in
    let v : ConcreteValue = if (number_in s condition).bits == 1 then value_in s.frame a else value_in s.frame b in
    sets p n s ready result v next refl (leads_within p n s ready).0
    (elim ((number_in s condition).bits == 1) as (λ t. IsKnownValue p s.history (if t then value_in s.frame a else value_in s.frame b)) [
      | true ↦ (reads p n s ready).1.0
      | false ↦ (reads p n s ready).1.1.0
    ])
attempt_keeps p input (node.Alloca size result next) s ready =
    let n : Node = node.Alloca size result next in
    malloc_keeps p n s ready size next (Some result) (leads_within p n s ready).0
attempt_keeps p input (node.Malloc size result next) s ready =
    let n : Node = node.Malloc size result next in
    elim (nat_lt 65536 (number_in s size).bits) as (λ t. RunKeeps p (if t then gives_if result (Ptr null) next s else gives_if result (new_here s) next (allocated (number_in s size).bits s))) [
      | true ↦ null_keeps p n s ready next result refl (leads_within p n s ready).0
      | false ↦ malloc_keeps p n s ready (number_in s size).bits next result (leads_within p n s ready).0
    ]
attempt_keeps p input (node.Free pointer next) s ready =
    let n : Node = node.Free pointer next in
    let a : Address = address_in s pointer in
    unless_keeps p (free_fault p s.history a) s (to next (with_history (freed_in a s.history) s)) (λ e.
    goes p n s ready (freed_in a s.history) next s.frame.regs (frees p s.frame s.callers s.history a.offset a.base ready.begun e) refl (leads_within p n s ready).0
    (each_map (IsKnownValue p s.history) (IsKnownValue p (freed_in a s.history)) (freed_known p s.history a.base) s.frame.regs ready.begun.values))
attempt_keeps p input (node.Load pointer result next) s ready =
    let n : Node = node.Load pointer result next in
    let t : RegType = type_at p s.frame.func result in
    let a : Address = address_in s pointer in
    unless_keeps p (access_fault p s.history (bytes_of_type t) a) s (gives_loaded (loaded p s.history a t) result next s) (λ e.
    loads p n s ready (loaded p s.history a t) result next refl (leads_within p n s ready).0
    (joined_known p s.history t (first_of (bytes_of_type t) 0 (byte_there p s.history a))
    (first_known p s.history (bytes_of_type t) 0 (byte_there p s.history a) (λ j. there_known p s.history a.base ((a.offset + j) % 2 ^ 64) ready.whole ready.begun.bytes))))
attempt_keeps p input (node.Store value pointer next) s ready =
    let n : Node = node.Store value pointer next in
    let v : ConcreteValue = value_in s.frame value in
    let a : Address = address_in s pointer in
    let h : History = stored_in (bytes_of_value v) 0 a v s.history in
    unless_keeps p (access_fault p s.history (bytes_of_value v) a) s (to next (with_history h s)) (λ e.
    let there = reached p s.history (bytes_of_value v) a.offset a.base e in
    let begun = stores p s.frame s.callers a v (bytes_of_value v) 0 s.history ready.begun there (reads p n s ready).0 in
    goes p n s ready h next s.frame.regs begun refl (leads_within p n s ready).0 begun.values)
attempt_keeps p input (node.Copy from there next) s ready =
    let n : Node = node.Copy from there next in
    let a : Address = address_in s from in
    let b : Address = address_in s there in
    let h : History = written_in b (byte_there p s.history a 0) 0 s.history in
    unless_keeps p (access_fault p s.history 1 a) s (unless (access_fault p s.history 1 b) s (to next (with_history h s))) (λ _.
    unless_keeps p (access_fault p s.history 1 b) s (to next (with_history h s)) (λ e.
    let begun = writes p s.frame s.callers s.history b.base ((b.offset + 0) % 2 ^ 64) (byte_there p s.history a 0) ready.begun (reached p s.history 1 b.offset b.base e)
    (there_known p s.history a.base ((a.offset + 0) % 2 ^ 64) ready.whole ready.begun.bytes) in
    goes p n s ready h next s.frame.regs begun refl (leads_within p n s ready).0 begun.values))
attempt_keeps p input (node.In result next) s ready =
    let n : Node = node.In result next in
    let begun = quiet_change p s.frame s.callers s.history Get ready.begun (get_is_quiet p s.history ready.begun.orderly ready.begun.bytes) in
    goes p n s ready (Get ∷ s.history) next (slice_set s.frame.regs result.0 (next_byte input s.history)) begun refl (leads_within p n s ready).0
    (each_set (IsKnownValue p (Get ∷ s.history)) s.frame.regs result.0 (next_byte input s.history) begun.values tt)
attempt_keeps p input (node.Put value next) s ready =
    let n : Node = node.Put value next in
    let b : ℕ = (number_in s value).bits % 256 in
    let begun = quiet_change p s.frame s.callers s.history (Put b) ready.begun (put_is_quiet p s.history b ready.begun.orderly ready.begun.bytes) in
    goes p n s ready (Put b ∷ s.history) next s.frame.regs begun refl (leads_within p n s ready).0 begun.values
attempt_keeps p input (node.Call callee args result next) s ready =
    let n : Node = node.Call callee args result next in
    let regs : List ConcreteValue = map (value_in s.frame) args ++ map zero_of (drop (length (map (value_in s.frame) args)) (regs_of (func_at p callee))) in
    enters p s.frame s.callers s.history callee regs ready.begun (is_no_alloca p n s ready refl) (entered_is p callee regs s.frame ready.whole ready.node.names)
    (each_append (IsKnownValue p s.history) (map (value_in s.frame) args) (map zero_of (drop (length (map (value_in s.frame) args)) (regs_of (func_at p callee))))
    (args_known p s.history s.frame args (reads p n s ready)) (zeros_known p s.history (drop (length (map (value_in s.frame) args)) (regs_of (func_at p callee)))))
attempt_keeps p input (node.Moves ms next) s ready =
    let n : Node = node.Moves ms next in
    moves p n s ready next ms s.frame.regs refl (leads_within p n s ready).0 (reads p n s ready) ready.begun.values
attempt_keeps p input (node.Jump next) s ready =
    let n : Node = node.Jump next in leads p n s ready next refl (leads_within p n s ready).0
attempt_keeps p input (node.Branch condition first second) s ready =
    let n : Node = node.Branch condition first second in
    elim ((number_in s condition).bits == 1) as (λ t. RunKeeps p (if t then branches 0 first s else branches 1 second s)) [
      | true ↦ leads p n s ready first refl (leads_within p n s ready).0
      | false ↦ leads p n s ready second refl (leads_within p n s ready).1.0
    ]
attempt_keeps p input (node.Switch value cases otherwise) s ready =
    let n : Node = node.Switch value cases otherwise in
    leads p n s ready (case_of (number_in s value).bits 0 cases otherwise).1 refl
    (case_within (number_in s value).bits 0 (length ready.frame.func.nodes) cases otherwise (leads_within p n s ready))
attempt_keeps p input (node.Ret value) s ready =
    let n : Node = node.Ret value in
    returns_keep p n s.frame s.callers s.history (option_map (value_in s.frame) value) (ended p s) ready.whole ready.begun (is_no_alloca p n s ready refl)
    (value_option p s.history s.frame value (reads p n s ready)) refl
attempt_keeps p input (node.Exit status) s ready = tt
attempt_keeps p input node.Abort s ready = tt
attempt_keeps p input (node.Assert args) s ready = tt
attempt_keeps p input node.Unreachable s ready = tt

-- a step from a state in which names are kept keeps them
pub step_keeps : (p : ProgramData) (input : List ℕ) (s : State) → IsWhole p → NamesAreKept p s → RunKeeps p (step p input s)
step_keeps p input s whole kept =
    let begun = begins p s.frame s.callers s.history kept in
    let n : Node = node_at p s.frame.func s.frame.node in
    rw (step-attempt p input s) (attempt_keeps p input n (with_frame (counted s.frame) s) (record {
      whole = whole;
      begun = begun;
      frame = begun.frame;
      at = refl;
      node = node_is p (counted s.frame) whole begun.frame;
    }))

-- names are kept before the first step
pub start_keeps : (p : ProgramData) → IsWhole p → NamesAreKept p (start p)
start_keeps p whole =
    let main = whole.main in
    record {
      orderly = tt;
      called = refl;
      frame = record {
        func = main.0;
        there = main.1;
        node = first_is p main.0 main.1 whole;
        counts = length-map (nodes_of (func_at p p.main)) none_yet ∙ ap (λ o. length (nodes_of o)) main.1;
      };
      frames = tt;
      counts = λ above step frame made there path. cc;
      caller_counts = tt;
      objects = λ n k alloca least most. absurd (omega (arith, least, most, zero_of_none (nodes_of (func_at p p.main)) n.0));
      caller_objects = tt;
      values = zeros_known p [] (regs_of (func_at p p.main));
      caller_values = tt;
      bytes = tt;
    }
  where
    first_is : (p : ProgramData) (func : Func) → func_at p p.main ≡ Some func → IsWhole p → 0 < length func.nodes
    first_is p func there whole =
        let F : Func → Type 0 = IsFuncOf (length p.globals) (length p.funcs) in
        (subst F (get_or_from_slice_get p.funcs p.main.0 func func there) (whole.funcs p.main.0 func (slice_get_within p.funcs p.main.0 func there))).nonempty

-- in every state of every run names are kept
pub run_keeps : (p : ProgramData) (input : List ℕ) (n : ℕ) → IsWhole p → RunKeeps p (run p input n)
run_keeps p input zero whole = rw (run-zero p input) (start_keeps p whole)
run_keeps p input (suc n) whole = rw (run-suc p input n) (more (run p input n) (run_keeps p input n whole))
  where
    more : (r : Run) → RunKeeps p r → RunKeeps p (goes_on p input r)
    more (On s) kept = step_keeps p input s whole kept
    more (Over e s) kept = tt

-- what a step makes has a name that no object of the history has
pub step_makes_new : (p : ProgramData) (s : State) → NamesAreKept p s → is_made (made_here (counted s.frame)) s.history ≡ false
step_makes_new p s kept = makes_new p (counted s.frame) s.callers s.history (begins p s.frame s.callers s.history kept)
