-- What steps and calls add to the history lies in the changes of their function.
use Rattle.std.specs.Prelude.{slice_get, unwrap_or, reverse, ◌==◌, ◌%◌, ◌^◌, nat_lt, if◌then◌else◌}
use Rattle.std.specs.Option.{option_map}
use Rattle.std.proofs.Common.{◌≡◌, ◌≤◌, ◌+◌, ◌∙◌, ℕ, zero, suc, Bool, true, false, not, ◌&&◌, List, [], ◌∷◌, ◌++◌, length, Option, Some, None, refl, sym, ap, subst, arith, append_assoc}
use Rattle.std.specs.List.{AllByRecursion as Each}
use Rattle.flat_ir.specs.declared.names.FuncId.{FuncId}
use Rattle.flat_ir.specs.declared.names.NodeId.{NodeId}
use Rattle.flat_ir.specs.declared.names.RegId.{RegId}
use Rattle.flat_ir.specs.declared.names.ObjectName.{ObjectName}
use Rattle.flat_ir.specs.declared.names.ObjectName.TheVariants.{Global, Made}
use Rattle.flat_ir.specs.declared.names.Site.TheVariants as site
use Rattle.flat_ir.specs.declared.names.Location.{Location}
use Rattle.flat_ir.specs.declared.names.Location.TheVariants as location
use Rattle.flat_ir.specs.declared.nodes.MoveSet.{MoveSet}
use Rattle.flat_ir.specs.declared.nodes.Node.{Node}
use Rattle.flat_ir.specs.declared.nodes.Node.TheVariants as node
use Rattle.flat_ir.specs.declared.nodes.Operand.{Operand}
use Rattle.flat_ir.specs.declared.program.ProgramData.{ProgramData}
use Rattle.flat_ir.specs.declared.values.Address.{Address}
use Rattle.flat_ir.specs.declared.values.ConcreteByte.{ConcreteByte}
use Rattle.flat_ir.specs.declared.values.ConcreteValue.{ConcreteValue}
use Rattle.flat_ir.specs.declared.values.ConcreteValue.TheVariants.{Ptr}
use Rattle.flat_ir.specs.declared.values.FaultKind.{FaultKind}
use Rattle.flat_ir.specs.declared.values.FaultKind.TheVariants as fault
use Rattle.flat_ir.specs.History.{History, Change, Write, Free, Get, site_of, is_alive}
use Rattle.flat_ir.specs.Effects.{written_in, stored_in, freed_in}
use Rattle.flat_ir.specs.Registers.{null, cut, bytes_of_type, bytes_of_value}
use Rattle.flat_ir.specs.Machine.{Frame, State, Run, On, Over, state_of, func_at, nodes_of, node_at, type_at, value_in, counted, set}
use Rattle.flat_ir.specs.Steps.{attempt, unless, with_frame, number_in, address_in, division_fault, free_fault, freed_object_fault, made_by_malloc, access_fault, gives_if, gives_loaded, new_here, allocated, byte_there, loaded, branches, returns, ended, set_all, frees_of_node, frees_at, frees_from, call_result, to, with_history}
use Rattle.flat_ir.specs.Run.{step, step-attempt}
use Rattle.flat_ir.specs.Whole.{IsWhole, operands_of}
use Rattle.flat_ir.proofs.MadeBasics.{each_append, each_reverse}
use Rattle.points_to.specs.Asked.{holder_in}
use Rattle.points_to.specs.Within.{BaseWithin, PointsWithin, callee_of, IsWithin, RunWithin}
use Rattle.points_to.proofs.Parts.{each_part}
use Rattle.points_to.proofs.Containing.{node_reads}
use Rattle.points_to.proofs.RunsWithin.{address_within, operands_within, result_func, step_within}
use Rattle.flat_ir.specs.Locations.{location_of}
use Rattle.mod_ref.specs.Changes.{changed_by, written_through, freed_by, is_malloc_site, changes, writes, frees, Changes, itself, within}
use Rattle.mod_ref.specs.Calls.{Leads, none, more, Adds}

nothing : (p : ProgramData) (f : FuncId) (h : History) → Adds p f h h
nothing p f h = record { added = []; whole = refl; changes = tt }

one : (p : ProgramData) (f : FuncId) (h : History) (c : Change) → Changes p f (location_of c) → Adds p f h (c ∷ h)
one p f h c it = record { added = c ∷ []; whole = refl; changes = (it, tt) }

one_more : (p : ProgramData) (f : FuncId) (h new : History) (c : Change) → Changes p f (location_of c) → Adds p f h new → Adds p f h (c ∷ new)
one_more p f h new c it a = record { added = c ∷ a.added; whole = ap (λ l. c ∷ l) a.whole; changes = (it, a.changes) }

pub after : (p : ProgramData) (f : FuncId) (a b c : History) → Adds p f a b → Adds p f b c → Adds p f a c
after p f a b c first second = record {
  added = second.added ++ first.added;
  whole = second.whole ∙ ap (λ l. second.added ++ l) first.whole ∙ sym (append_assoc second.added first.added a);
  changes = each_append (λ d. Changes p f (location_of d)) second.added first.added second.changes first.changes;
}

abbrev RunAdds : ProgramData → FuncId → History → Run → Type 0
RunAdds p f h r = Adds p f h (state_of r).history

unless_adds : (p : ProgramData) (f : FuncId) (h : History) (o : Option FaultKind) (s : State) (r : Run) → Adds p f h s.history → (o ≡ None → RunAdds p f h r) → RunAdds p f h (unless o s r)
unless_adds p f h None s r a b = b refl
unless_adds p f h (Some kind) s r a b = a

-- a node that is about to be executed
record IsAt (p : ProgramData) (n : Node) (s : State) : Type 0 where
  reads : Each (λ a. PointsWithin p (holder_in s.frame.func a) (value_in s.frame a)) (operands_of n)
  at : node_at p s.frame.func s.frame.node ≡ n

-- it may write where its pointer points
abbrev MayWrite : ProgramData → FuncId → Option ObjectName → Type 0
MayWrite p f None = Unit {0}
MayWrite p f (Some x) = Changes p f (location.Cells (site_of x))

may_write : (p : ProgramData) (f : FuncId) (n : NodeId) (x : Node) (a : Operand) (b : Option ObjectName) → node_at p f n ≡ x → written_through x ≡ Some a → BaseWithin p (holder_in f a) b → MayWrite p f b
may_write p f n x a None at there w = tt
may_write p f n x a (Some y) at there w =
    itself f n (location.Cells (site_of y)) (writes a (site_of y) (ap written_through at ∙ there) w)

written_adds : (p : ProgramData) (f : FuncId) (h now : History) (b : Option ObjectName) (place : ℕ) (c : ConcreteByte) → MayWrite p f b → Adds p f h now
    → Adds p f h (elim b [ None ↦ now | Some x ↦ Write x place c ∷ now ])
written_adds p f h now None place c may a = a
written_adds p f h now (Some x) place c may a = one_more p f h now (Write x place c) may a

stored_adds : (p : ProgramData) (f : FuncId) (h now : History) (n j : ℕ) (a : Address) (v : ConcreteValue) → MayWrite p f a.base → Adds p f h now → Adds p f h (stored_in n j a v now)
stored_adds p f h now zero j a v may it = it
stored_adds p f h now (suc n) j a v may it =
    stored_adds p f h (written_in a (cut v j) j now) n (j + 1) a v may (written_adds p f h now a.base ((a.offset + j) % 2 ^ 64) (cut v j) may it)

-- what a node changes whatever its operands are
changes_here : (p : ProgramData) (s : State) (n : Node) (l : Location) → node_at p s.frame.func s.frame.node ≡ n → changed_by s.frame.func s.frame.node n ≡ Some l → Changes p s.frame.func l
changes_here p s n l at is = itself s.frame.func s.frame.node l (changes l (ap (changed_by s.frame.func s.frame.node) at ∙ is))

made_adds : (p : ProgramData) (s : State) (size : ℕ) (result : Option RegId) (next : NodeId) → Changes p s.frame.func (location.Life (site.Node s.frame.func s.frame.node))
    → RunAdds p s.frame.func s.history (gives_if result (new_here s) next (allocated size s))
made_adds p s size None next it = one p s.frame.func s.history _ it
made_adds p s size (Some r) next it = one p s.frame.func s.history _ it

null_adds : (p : ProgramData) (s : State) (result : Option RegId) (next : NodeId) → RunAdds p s.frame.func s.history (gives_if result (Ptr null) next s)
null_adds p s None next = nothing p s.frame.func s.history
null_adds p s (Some r) next = nothing p s.frame.func s.history

loaded_adds : (p : ProgramData) (s : State) (o : Option ConcreteValue) (r : RegId) (next : NodeId) → RunAdds p s.frame.func s.history (gives_loaded o r next s)
loaded_adds p s None r next = nothing p s.frame.func s.history
loaded_adds p s (Some v) r next = nothing p s.frame.func s.history

-- what passes the tests of a free was made by malloc
pub passes_free : (alive made at_start : Bool) → (if not alive then Some fault.UseAfterFree else (if made && at_start then None else Some fault.BadFree)) ≡ None → made ≡ true
passes_free true true at_start e = refl
passes_free true false at_start e = cc
passes_free false made at_start e = cc

pub malloc_site : (p : ProgramData) (x : ObjectName) → made_by_malloc p x ≡ true → is_malloc_site p (site_of x) ≡ true
malloc_site p (Global g) e = e
malloc_site p (Made frame made) e = e

abbrev pub free_fault_at : ProgramData → History → ℕ → Option ObjectName → Option FaultKind
free_fault_at p h offset b = elim b [ None ↦ (if offset == 0 then None else Some fault.BadFree) | Some y ↦ freed_object_fault p h y offset ]

freed_adds : (p : ProgramData) (f : FuncId) (n : NodeId) (x : Node) (a : Operand) (b : Option ObjectName) (offset : ℕ) (h : History) → node_at p f n ≡ x → freed_by x ≡ Some a
    → BaseWithin p (holder_in f a) b → free_fault_at p h offset b ≡ None → Adds p f h (elim b [ None ↦ h | Some y ↦ Free y ∷ h ])
freed_adds p f n x a None offset h at there w e = nothing p f h
freed_adds p f n x a (Some y) offset h at there w e =
    one p f h (Free y) (itself f n (location.Life (site_of y))
    (frees a (site_of y) (ap freed_by at ∙ there) w (malloc_site p y (passes_free (is_alive y h) (made_by_malloc p y) (offset == 0) e))))

-- what a frame frees at its end
abbrev IsOwn : ProgramData → FuncId → Change → Type 0
IsOwn p f c = Changes p f (location_of c)

node_own : (p : ProgramData) (f : Frame) (n : NodeId) (k times : ℕ) → changed_by f.func n (node_at p f.func n) ≡ Some (location.Life (site.Node f.func n)) → Each (IsOwn p f.func) (frees_of_node f n times k)
node_own p f n k zero is = tt
node_own p f n k (suc times) is = (itself f.func n (location.Life (site.Node f.func n)) (changes (location.Life (site.Node f.func n)) is), node_own p f n (k + 1) times is)

at_own : (p : ProgramData) (f : Frame) (n : NodeId) (count : ℕ) (x : Node) → node_at p f.func n ≡ x → Each (IsOwn p f.func) (frees_at f n count x)
at_own p f n count (node.Alloca size result next) at = node_own p f n 1 count (ap (changed_by f.func n) at)
at_own p f n count _ at = tt

from_own : (p : ProgramData) (f : Frame) → Each (IsOwn p f.func) (frees_from f 0 (nodes_of (func_at p f.func)))
from_own p f =
    each_part (λ k x. frees_at f (record { 0 = k }) (unwrap_or (slice_get f.counts k) 0) x) (frees_from f) (λ k. refl, λ k x xs. refl) (IsOwn p f.func) (nodes_of (func_at p f.func))
    (λ k x there. at_own p f (record { 0 = k }) (unwrap_or (slice_get f.counts k) 0) x (ap (λ (o : Option Node). unwrap_or o node.Unreachable) there))

ended_adds : (p : ProgramData) (s : State) → Adds p s.frame.func s.history (ended p s).history
ended_adds p s =
    let all = frees_from s.frame 0 (nodes_of (func_at p s.frame.func)) in
    record {
      added = reverse all;
      whole = refl;
      changes = each_reverse (IsOwn p s.frame.func) all (from_own p s.frame);
    }

returns_adds : (p : ProgramData) (f : FuncId) (h : History) (v : Option ConcreteValue) (callers : List Frame) (s : State) → Adds p f h s.history → RunAdds p f h (returns p v callers s)
returns_adds p f h v [] s a = a
returns_adds p f h v (g ∷ gs) s a = a

-- each node adds its own changes
attempt_adds : (p : ProgramData) (input : List ℕ) (n : Node) (s : State) → IsAt p n s → RunAdds p s.frame.func s.history (attempt p input n s)
attempt_adds p input (node.Bin op a b result next) s at =
    unless_adds p s.frame.func s.history (division_fault op (number_in s a) (number_in s b)) s _ (nothing p s.frame.func s.history) (λ e. nothing p s.frame.func s.history)
attempt_adds p input (node.Alloca size result next) s at = made_adds p s size (Some result) next (changes_here p s (node.Alloca size result next) _ at.at refl)
attempt_adds p input (node.Malloc size result next) s at =
    elim (nat_lt 65536 (number_in s size).bits) as (λ t. RunAdds p s.frame.func s.history (if t then gives_if result (Ptr null) next s else gives_if result (new_here s) next (allocated (number_in s size).bits s))) [
      | true ↦ null_adds p s result next
      | false ↦ made_adds p s (number_in s size).bits result next (changes_here p s (node.Malloc size result next) _ at.at refl)
    ]
attempt_adds p input (node.Free pointer next) s at =
    unless_adds p s.frame.func s.history (free_fault p s.history (address_in s pointer)) s (to next (with_history (freed_in (address_in s pointer) s.history) s)) (nothing p s.frame.func s.history)
    (λ e. freed_adds p s.frame.func s.frame.node (node.Free pointer next) pointer (address_in s pointer).base (address_in s pointer).offset s.history at.at refl
    (address_within p (holder_in s.frame.func pointer) (value_in s.frame pointer) at.reads.0) e)
attempt_adds p input (node.Load pointer result next) s at =
    unless_adds p s.frame.func s.history (access_fault p s.history (bytes_of_type (type_at p s.frame.func result)) (address_in s pointer)) s _ (nothing p s.frame.func s.history)
    (λ e. loaded_adds p s (loaded p s.history (address_in s pointer) (type_at p s.frame.func result)) result next)
attempt_adds p input (node.Store value pointer next) s at =
    let v = value_in s.frame value in
    unless_adds p s.frame.func s.history (access_fault p s.history (bytes_of_value v) (address_in s pointer)) s _ (nothing p s.frame.func s.history)
    (λ e. stored_adds p s.frame.func s.history s.history (bytes_of_value v) 0 (address_in s pointer) v
    (may_write p s.frame.func s.frame.node (node.Store value pointer next) pointer (address_in s pointer).base at.at refl
    (address_within p (holder_in s.frame.func pointer) (value_in s.frame pointer) at.reads.1.0))
    (nothing p s.frame.func s.history))
attempt_adds p input (node.Copy from there next) s at =
    unless_adds p s.frame.func s.history (access_fault p s.history 1 (address_in s from)) s _ (nothing p s.frame.func s.history)
    (λ e. unless_adds p s.frame.func s.history (access_fault p s.history 1 (address_in s there)) s _ (nothing p s.frame.func s.history)
    (λ e'. written_adds p s.frame.func s.history s.history (address_in s there).base (((address_in s there).offset + 0) % 2 ^ 64) (byte_there p s.history (address_in s from) 0)
    (may_write p s.frame.func s.frame.node (node.Copy from there next) there (address_in s there).base at.at refl
    (address_within p (holder_in s.frame.func there) (value_in s.frame there) at.reads.1.0))
    (nothing p s.frame.func s.history)))
attempt_adds p input (node.In result next) s at = one p s.frame.func s.history Get (changes_here p s (node.In result next) location.Input at.at refl)
attempt_adds p input (node.Put value next) s at = one p s.frame.func s.history _ (changes_here p s (node.Put value next) location.Output at.at refl)
attempt_adds p input (node.Branch condition first second) s at =
    elim ((number_in s condition).bits == 1) as (λ t. RunAdds p s.frame.func s.history (if t then branches 0 first s else branches 1 second s)) [
      | true ↦ nothing p s.frame.func s.history
      | false ↦ nothing p s.frame.func s.history
    ]
attempt_adds p input (node.Ret value) s at = returns_adds p s.frame.func s.history (option_map (value_in s.frame) value) s.callers (ended p s) (ended_adds p s)
attempt_adds p input _ s at = nothing p s.frame.func s.history

pub step_adds : (p : ProgramData) (input : List ℕ) (s : State) → IsWhole p → IsWithin p s → Adds p s.frame.func s.history (state_of (step p input s)).history
step_adds p input s whole w =
    let n : Node = node_at p s.frame.func s.frame.node in
    rw (step-attempt p input s) (attempt_adds p input n (with_frame (counted s.frame) s) (record {
      reads = operands_within p (counted s.frame) (operands_of n) w.registers (node_reads p s.frame.func s.frame.node whole);
      at = refl;
    }))

-- The frames from the one that waits at a depth up: that one is of a function, and each other one of what the frame below it calls.
data Reached (p : ProgramData) (f : FuncId) (depth : ℕ) : FuncId → List Frame → Type 0 where
  alone : (callers : List Frame) → length callers ≡ depth → Reached p f depth f callers
  deeper : (k : FuncId) (g : Frame) (gs : List Frame) → callee_of (node_at p g.func g.node) ≡ Some k → Reached p f depth g.func gs → Reached p f depth k (g ∷ gs)

-- what such a function changes, the one at the depth changes
reached_changes : (p : ProgramData) (f : FuncId) (depth : ℕ) (k : FuncId) (callers : List Frame) (l : Location) → Reached p f depth k callers → Changes p k l → Changes p f l
reached_changes p f depth _ callers l (alone _ e) c = c
reached_changes p f depth k _ l (deeper _ g gs calls r) c = reached_changes p f depth g.func gs l r (within g.func g.node k l calls c)

each_reached : (p : ProgramData) (f k : FuncId) → ((l : Location) → Changes p k l → Changes p f l) → (cs : List Change) → Each (IsOwn p k) cs → Each (IsOwn p f) cs
each_reached p f k to [] all = tt
each_reached p f k to (c ∷ cs) all = (to (location_of c) all.0, each_reached p f k to cs all.1)

reached_adds : (p : ProgramData) (f : FuncId) (depth : ℕ) (k : FuncId) (callers : List Frame) (old new : History) → Reached p f depth k callers → Adds p k old new → Adds p f old new
reached_adds p f depth k callers old new r a = record {
  added = a.added;
  whole = a.whole;
  changes = each_reached p f k (λ l c. reached_changes p f depth k callers l r c) a.added a.changes;
}

abbrev StaysReached : ProgramData → FuncId → ℕ → Run → Type 0
StaysReached p f depth (On u) = depth ≤ length u.callers → Reached p f depth u.frame.func u.callers
StaysReached p f depth (Over e u) = Unit {0}

unless_reached : (p : ProgramData) (f : FuncId) (depth : ℕ) (o : Option FaultKind) (s : State) (r : Run) → StaysReached p f depth r → StaysReached p f depth (unless o s r)
unless_reached p f depth None s r w = w
unless_reached p f depth (Some kind) s r w = tt

gives_reached : (p : ProgramData) (f : FuncId) (depth : ℕ) (result : Option RegId) (v : ConcreteValue) (next : NodeId) (s : State) → Reached p f depth s.frame.func s.callers
    → StaysReached p f depth (gives_if result v next s)
gives_reached p f depth None v next s r = λ le. r
gives_reached p f depth (Some x) v next s r = λ le. r

loaded_reached : (p : ProgramData) (f : FuncId) (depth : ℕ) (o : Option ConcreteValue) (x : RegId) (next : NodeId) (s : State) → Reached p f depth s.frame.func s.callers
    → StaysReached p f depth (gives_loaded o x next s)
loaded_reached p f depth None x next s r = tt
loaded_reached p f depth (Some v) x next s r = λ le. r

moves_func : (old : Frame) (ms : List MoveSet) (f : Frame) → (set_all old ms f).func ≡ f.func
moves_func old [] f = refl
moves_func old (m ∷ ms) f = moves_func old ms (set m.register (value_in old m.value) f)

returns_reached : (p : ProgramData) (f : FuncId) (depth : ℕ) (k : FuncId) (v : Option ConcreteValue) (callers : List Frame) (s : State) → Reached p f depth k callers → StaysReached p f depth (returns p v callers s)
returns_reached p f depth k v [] s r = tt
returns_reached p f depth _ v (g ∷ gs) s (alone _ e) = λ le. absurd (omega (arith, e, le))
returns_reached p f depth k v (g ∷ gs) s (deeper _ _ _ calls r) =
    λ le. subst (λ (h : FuncId). Reached p f depth h gs) (sym (result_func (call_result (node_at p g.func g.node)) v g)) r

attempt_reached : (p : ProgramData) (input : List ℕ) (f : FuncId) (depth : ℕ) (n : Node) (s : State) → node_at p s.frame.func s.frame.node ≡ n → Reached p f depth s.frame.func s.callers
    → StaysReached p f depth (attempt p input n s)
attempt_reached p input f depth (node.Bin op a b result next) s at r = unless_reached p f depth (division_fault op (number_in s a) (number_in s b)) s _ (λ le. r)
attempt_reached p input f depth (node.Malloc size result next) s at r =
    elim (nat_lt 65536 (number_in s size).bits) as (λ t. StaysReached p f depth (if t then gives_if result (Ptr null) next s else gives_if result (new_here s) next (allocated (number_in s size).bits s))) [
      | true ↦ gives_reached p f depth result (Ptr null) next s r
      | false ↦ gives_reached p f depth result (new_here s) next (allocated (number_in s size).bits s) r
    ]
attempt_reached p input f depth (node.Free pointer next) s at r = unless_reached p f depth (free_fault p s.history (address_in s pointer)) s _ (λ le. r)
attempt_reached p input f depth (node.Load pointer result next) s at r =
    unless_reached p f depth (access_fault p s.history (bytes_of_type (type_at p s.frame.func result)) (address_in s pointer)) s _
    (loaded_reached p f depth (loaded p s.history (address_in s pointer) (type_at p s.frame.func result)) result next s r)
attempt_reached p input f depth (node.Store value pointer next) s at r =
    unless_reached p f depth (access_fault p s.history (bytes_of_value (value_in s.frame value)) (address_in s pointer)) s _ (λ le. r)
attempt_reached p input f depth (node.Copy from there next) s at r =
    unless_reached p f depth (access_fault p s.history 1 (address_in s from)) s _ (unless_reached p f depth (access_fault p s.history 1 (address_in s there)) s _ (λ le. r))
attempt_reached p input f depth (node.Call callee args result next) s at r = λ le. deeper callee s.frame s.callers (ap callee_of at) r
attempt_reached p input f depth (node.Moves ms next) s at r = λ le. subst (λ (h : FuncId). Reached p f depth h s.callers) (sym (moves_func s.frame ms s.frame)) r
attempt_reached p input f depth (node.Branch condition yes' no') s at r =
    elim ((number_in s condition).bits == 1) as (λ t. StaysReached p f depth (if t then branches 0 yes' s else branches 1 no' s)) [ true ↦ λ le. r | false ↦ λ le. r ]
attempt_reached p input f depth (node.Ret value) s at r = returns_reached p f depth s.frame.func (option_map (value_in s.frame) value) s.callers (ended p s) r
attempt_reached p input f depth (node.Exit status) s at r = tt
attempt_reached p input f depth node.Abort s at r = tt
attempt_reached p input f depth (node.Assert args) s at r = tt
attempt_reached p input f depth node.Unreachable s at r = tt
attempt_reached p input f depth _ s at r = λ le. r

step_reached : (p : ProgramData) (input : List ℕ) (f : FuncId) (depth : ℕ) (s : State) → Reached p f depth s.frame.func s.callers → StaysReached p f depth (step p input s)
step_reached p input f depth s r =
    rw (step-attempt p input s) (attempt_reached p input f depth (node_at p s.frame.func s.frame.node) (with_frame (counted s.frame) s) refl r)

-- the state that such steps lead to
record Stands (p : ProgramData) (f : FuncId) (depth : ℕ) (h : History) (t : State) : Type 0 where
  inside : IsWithin p t
  reached : depth ≤ length t.callers → Reached p f depth t.frame.func t.callers
  adds : Adds p f h t.history

stands : (p : ProgramData) (input : List ℕ) (s t : State) → IsWhole p → IsWithin p s → Leads p input (length s.callers) s t → Stands p s.frame.func (length s.callers) s.history t
stands p input s t whole w none = record { inside = w; reached = λ le. alone s.callers refl; adds = nothing p s.frame.func s.history }
stands p input s u whole w (more t _ before le e) =
    let at = stands p input s t whole w before in
    let there = at.reached le in
    let own : Adds p t.frame.func t.history u.history = subst (λ (r : Run). Adds p t.frame.func t.history (state_of r).history) e (step_adds p input t whole at.inside) in
    record {
      inside = subst (λ (r : Run). RunWithin p r) e (step_within p input t whole at.inside);
      reached = subst (λ (r : Run). StaysReached p s.frame.func (length s.callers) r) e (step_reached p input s.frame.func (length s.callers) t there);
      adds = after p s.frame.func s.history t.history u.history at.adds (reached_adds p s.frame.func (length s.callers) t.frame.func t.callers t.history u.history there own);
    }

pub calls_change : (p : ProgramData) (input : List ℕ) (s t : State) → IsWhole p → IsWithin p s → Leads p input (length s.callers) s t → Adds p s.frame.func s.history t.history
calls_change p input s t whole w leads = (stands p input s t whole w leads).adds
