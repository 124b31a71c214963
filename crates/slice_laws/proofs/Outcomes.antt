-- What a node that is no call and no return does to a state: the registers that it sets, where it leads, and what it changes.
use Rattle.mod_ref.proofs.CallsChange.{passes_free, malloc_site, free_fault_at}
use Rattle.points_to.proofs.Parts.{first, second}
use Rattle.std.specs.Prelude.{slice_get, slice_set, map, ◌==◌, ◌%◌, ◌^◌, nat_lt, if◌then◌else◌}
use Rattle.std.proofs.Common.{◌≡◌, ◌∙◌, ◌+◌, ℕ, zero, suc, Bool, true, false, not, ◌&&◌, List, [], ◌∷◌, ◌++◌, Option, Some, None, refl, sym, ap, subst, append_assoc}
use Rattle.std.specs.List.{Contains, AllByRecursion as Each}
use Rattle.flat_ir.specs.declared.names.FuncId.{FuncId}
use Rattle.flat_ir.specs.declared.names.NodeId.{NodeId}
use Rattle.flat_ir.specs.declared.names.RegId.{RegId}
use Rattle.flat_ir.specs.declared.names.ObjectName.{ObjectName}
use Rattle.flat_ir.specs.declared.names.ObjectName.TheVariants.{Global, Made}
use Rattle.flat_ir.specs.declared.names.Site.TheVariants as site
use Rattle.flat_ir.specs.declared.names.Location.{Location}
use Rattle.flat_ir.specs.declared.names.Location.TheVariants as location
use Rattle.flat_ir.specs.declared.nodes.MoveSet.{MoveSet}
use Rattle.flat_ir.specs.declared.nodes.SwitchCase.{SwitchCase}
use Rattle.flat_ir.specs.declared.nodes.Node.{Node}
use Rattle.flat_ir.specs.declared.nodes.Node.TheVariants as node
use Rattle.flat_ir.specs.declared.nodes.Operand.{Operand}
use Rattle.flat_ir.specs.declared.program.ProgramData.{ProgramData}
use Rattle.flat_ir.specs.declared.values.Address.{Address}
use Rattle.flat_ir.specs.declared.values.ConcreteByte.{ConcreteByte}
use Rattle.flat_ir.specs.declared.values.ConcreteValue.{ConcreteValue}
use Rattle.flat_ir.specs.declared.values.ConcreteValue.TheVariants.{Ptr}
use Rattle.flat_ir.specs.declared.values.FaultKind.{FaultKind}
use Rattle.flat_ir.specs.declared.values.FaultKind.TheVariants as fault
use Rattle.flat_ir.specs.History.{History, Write, Alloc, Free, Get, Put, site_of, is_alive}
use Rattle.flat_ir.specs.Effects.{written_in, stored_in, freed_in}
use Rattle.flat_ir.specs.Registers.{null, cut, bytes_of_type, bytes_of_value}
use Rattle.flat_ir.specs.Machine.{Event, Frame, State, Run, On, Over, node_at, type_at, value_in, made_here, set}
use Rattle.flat_ir.specs.Steps.{attempt, unless, with_frame, number_in, address_in, division_fault, free_fault, freed_object_fault, made_by_malloc, access_fault, gives_if, gives_loaded, new_here, allocated, byte_there, loaded, branches, set_all, case_of, to, with_history}
use Rattle.flat_ir.specs.Whole.{operands_of, results_of, successors_of}
use Rattle.points_to.specs.Asked.{holder_in}
use Rattle.points_to.specs.Within.{BaseWithin, PointsWithin}
use Rattle.points_to.proofs.RunsWithin.{address_within}
use Rattle.flat_ir.specs.Locations.{location_of}
use Rattle.mod_ref.specs.Changes.{ChangesAt, changes, writes, frees, changed_by, written_through, freed_by, is_malloc_site}
use Rattle.slice_laws.proofs.Lists.{set_apart, later}

-- a state with other registers, at another node, and with a longer history
abbrev pub moved_to : State → List ConcreteValue → NodeId → History → List Event → State
moved_to s regs next added events = record { frame = record s.frame { regs = regs; node = next }; callers = s.callers; history = added ++ s.history; events = events }

-- the node sets its results alone, leads to one of its successors, and adds its own changes
pub data Did (p : ProgramData) (n : Node) (s : State) : State → Type 0 where
  did : (regs : List ConcreteValue) (next : NodeId) (added : History) (events : List Event) → ((r : RegId) → (Contains (results_of n) r → ⊥) → slice_get regs r.0 ≡ slice_get s.frame.regs r.0) →
      Contains (successors_of n) next → Each (λ c. ChangesAt p s.frame.func s.frame.node (location_of c)) added → Did p n s (moved_to s regs next added events)

abbrev pub RunDid : ProgramData → Node → State → Run → Type 0
RunDid p n s (On t) = Did p n s t
RunDid p n s (Over e t) = Unit {0}

unless_did : (p : ProgramData) (n : Node) (s t : State) (o : Option FaultKind) (r : Run) → (o ≡ None → RunDid p n s r) → RunDid p n s (unless o t r)
unless_did p n s t None r h = h refl
unless_did p n s t (Some kind) r h = tt

-- registers of which one is set
one_set : (rs : List RegId) (regs : List ConcreteValue) (x : RegId) (v : ConcreteValue) → Contains rs x → (r : RegId) → (Contains rs r → ⊥) → slice_get (slice_set regs x.0 v) r.0 ≡ slice_get regs r.0
one_set rs regs x v there r none = set_apart regs x.0 r.0 v (λ e. none (subst (λ (k : ℕ). Contains rs (record { 0 = k })) e there))

sets_one : (p : ProgramData) (n : Node) (s : State) (x : RegId) (v : ConcreteValue) (next : NodeId) (added : History) (events : List Event) → Contains (results_of n) x → Contains (successors_of n) next
    → Each (λ c. ChangesAt p s.frame.func s.frame.node (location_of c)) added → Did p n s (moved_to s (slice_set s.frame.regs x.0 v) next added events)
sets_one p n s x v next added events there leads own = did (slice_set s.frame.regs x.0 v) next added events (one_set (results_of n) s.frame.regs x v there) leads own

sets_none : (p : ProgramData) (n : Node) (s : State) (next : NodeId) (added : History) (events : List Event) → Contains (successors_of n) next
    → Each (λ c. ChangesAt p s.frame.func s.frame.node (location_of c)) added → Did p n s (moved_to s s.frame.regs next added events)
sets_none p n s next added events leads own = did s.frame.regs next added events (λ r none. refl) leads own

-- with a history that is what was added and the old one
with_added : (p : ProgramData) (n : Node) (s : State) (next : NodeId) (added h : History) → h ≡ added ++ s.history → Contains (successors_of n) next
    → Each (λ c. ChangesAt p s.frame.func s.frame.node (location_of c)) added → RunDid p n s (to next (with_history h s))
with_added p n s next added h e leads own =
    subst (λ (x : History). RunDid p n s (to next (with_history x s))) (sym e) (sets_none p n s next added s.events leads own)

-- ---- what effects on memory add

pub written_on : (a : Address) (b : ConcreteByte) (j : ℕ) (h : History) → written_in a b j h ≡ written_in a b j [] ++ h
written_on a b j h = elim a.base as (λ o. elim o [ None ↦ h | Some x ↦ Write x ((a.offset + j) % 2 ^ 64) b ∷ h ] ≡ elim o [ None ↦ [] | Some x ↦ Write x ((a.offset + j) % 2 ^ 64) b ∷ [] ] ++ h) [ None ↦ refl | Some x ↦ refl ]

pub freed_on : (a : Address) (h : History) → freed_in a h ≡ freed_in a [] ++ h
freed_on a h = elim a.base as (λ o. elim o [ None ↦ h | Some x ↦ Free x ∷ h ] ≡ elim o [ None ↦ [] | Some x ↦ Free x ∷ [] ] ++ h) [ None ↦ refl | Some x ↦ refl ]

pub stored_on : (n j : ℕ) (a : Address) (v : ConcreteValue) (h : History) → stored_in n j a v h ≡ stored_in n j a v [] ++ h
stored_on zero j a v h = refl
stored_on (suc n) j a v h =
    let one = written_in a (cut v j) j [] in
    ap (stored_in n (j + 1) a v) (written_on a (cut v j) j h) ∙ stored_on n (j + 1) a v (one ++ h) ∙ sym (append_assoc (stored_in n (j + 1) a v []) one h)
    ∙ ap (λ l. l ++ h) (sym (stored_on n (j + 1) a v one))

-- the node may write where its pointer points
abbrev MayWrite : ProgramData → FuncId → NodeId → Option ObjectName → Type 0
MayWrite p f n None = Unit {0}
MayWrite p f n (Some x) = ChangesAt p f n (location.Cells (site_of x))

may_write : (p : ProgramData) (f : FuncId) (n : NodeId) (x : Node) (a : Operand) (b : Option ObjectName) → node_at p f n ≡ x → written_through x ≡ Some a → BaseWithin p (holder_in f a) b → MayWrite p f n b
may_write p f n x a None at there w = tt
may_write p f n x a (Some y) at there w = writes a (site_of y) (ap written_through at ∙ there) w

written_own : (p : ProgramData) (f : FuncId) (n : NodeId) (b : Option ObjectName) (place : ℕ) (c : ConcreteByte) (h : History) → MayWrite p f n b → Each (λ d. ChangesAt p f n (location_of d)) h
    → Each (λ d. ChangesAt p f n (location_of d)) (elim b [ None ↦ h | Some x ↦ Write x place c ∷ h ])
written_own p f n None place c h may own = own
written_own p f n (Some x) place c h may own = (may, own)

stored_own : (p : ProgramData) (f : FuncId) (n : NodeId) (times j : ℕ) (a : Address) (v : ConcreteValue) (h : History) → MayWrite p f n a.base → Each (λ d. ChangesAt p f n (location_of d)) h
    → Each (λ d. ChangesAt p f n (location_of d)) (stored_in times j a v h)
stored_own p f n zero j a v h may own = own
stored_own p f n (suc times) j a v h may own =
    stored_own p f n times (j + 1) a v (written_in a (cut v j) j h) may (written_own p f n a.base ((a.offset + j) % 2 ^ 64) (cut v j) h may own)

freed_own : (p : ProgramData) (f : FuncId) (n : NodeId) (x : Node) (a : Operand) (b : Option ObjectName) (offset : ℕ) (h : History) → node_at p f n ≡ x → freed_by x ≡ Some a
    → BaseWithin p (holder_in f a) b → free_fault_at p h offset b ≡ None → Each (λ d. ChangesAt p f n (location_of d)) (elim b [ None ↦ [] | Some y ↦ Free y ∷ [] ])
freed_own p f n x a None offset h at there w e = tt
freed_own p f n x a (Some y) offset h at there w e =
    (frees a (site_of y) (ap freed_by at ∙ there) w (malloc_site p y (passes_free (is_alive y h) (made_by_malloc p y) (offset == 0) e)), tt)

-- ---- registers that are set together

abbrev pub regs_all : Frame → List MoveSet → List ConcreteValue → List ConcreteValue
regs_all old [] regs = regs
regs_all old (m ∷ ms) regs = regs_all old ms (slice_set regs m.register.0 (value_in old m.value))

pub set_all_is : (old frame : Frame) (ms : List MoveSet) → set_all old ms frame ≡ record frame { regs = regs_all old ms frame.regs }
set_all_is old frame [] = refl
set_all_is old frame (m ∷ ms) = set_all_is old (set m.register (value_in old m.value) frame) ms

moves_apart : (old : Frame) (ms : List MoveSet) (regs : List ConcreteValue) (r : RegId) → (Contains (map (λ (m : MoveSet). m.register) ms) r → ⊥) → slice_get (regs_all old ms regs) r.0 ≡ slice_get regs r.0
moves_apart old [] regs r none = refl
moves_apart old (m ∷ ms) regs r none =
    let rest = map (λ (x : MoveSet). x.register) ms in
    moves_apart old ms (slice_set regs m.register.0 (value_in old m.value)) r (λ c. none (later m.register r rest c))
    ∙ one_set (m.register ∷ rest) regs m.register (value_in old m.value) (first m.register rest) r none

-- the case that fits is one of them, or the default
case_leads : (v k : ℕ) (cs : List SwitchCase) (otherwise : NodeId) → Contains (map (λ (c : SwitchCase). c.to) cs ++ otherwise ∷ []) (case_of v k cs otherwise).1
case_leads v k [] otherwise = first otherwise []
case_leads v k (c ∷ cs) otherwise =
    elim (c.number.bits == v) as (λ t. Contains (c.to ∷ map (λ (x : SwitchCase). x.to) cs ++ otherwise ∷ []) (if t then (k, c.to) else case_of v (k + 1) cs otherwise).1) [
      | true ↦ first c.to _
      | false ↦ later c.to (case_of v (k + 1) cs otherwise).1 _ (case_leads v (k + 1) cs otherwise)
    ]

-- ---- each node

-- a node that is about to be executed
pub record IsAt (p : ProgramData) (n : Node) (s : State) : Type 0 where
  pub reads : Each (λ a. PointsWithin p (holder_in s.frame.func a) (value_in s.frame a)) (operands_of n)
  pub at : node_at p s.frame.func s.frame.node ≡ n

own_change : (p : ProgramData) (n : Node) (s : State) (l : Location) → IsAt p n s → changed_by s.frame.func s.frame.node n ≡ Some l → ChangesAt p s.frame.func s.frame.node l
own_change p n s l at is = changes l (ap (changed_by s.frame.func s.frame.node) at.at ∙ is)

made_did : (p : ProgramData) (n : Node) (s : State) (size : ℕ) (result : Option RegId) (next : NodeId) → ((x : RegId) → result ≡ Some x → Contains (results_of n) x) → Contains (successors_of n) next
    → ChangesAt p s.frame.func s.frame.node (location.Life (site.Node s.frame.func s.frame.node)) → RunDid p n s (gives_if result (new_here s) next (allocated size s))
made_did p n s size None next there leads own = sets_none p n s next (Alloc (made_here s.frame) size ∷ []) s.events leads (own, tt)
made_did p n s size (Some x) next there leads own = sets_one p n s x (new_here s) next (Alloc (made_here s.frame) size ∷ []) s.events (there x refl) leads (own, tt)

null_did : (p : ProgramData) (n : Node) (s : State) (result : Option RegId) (next : NodeId) → ((x : RegId) → result ≡ Some x → Contains (results_of n) x) → Contains (successors_of n) next
    → RunDid p n s (gives_if result (Ptr null) next s)
null_did p n s None next there leads = sets_none p n s next [] s.events leads tt
null_did p n s (Some x) next there leads = sets_one p n s x _ next [] s.events (there x refl) leads tt

loaded_did : (p : ProgramData) (n : Node) (s : State) (o : Option ConcreteValue) (x : RegId) (next : NodeId) → Contains (results_of n) x → Contains (successors_of n) next → RunDid p n s (gives_loaded o x next s)
loaded_did p n s None x next there leads = tt
loaded_did p n s (Some v) x next there leads = sets_one p n s x v next [] _ there leads tt

malloced : (size : Operand) (result : Option RegId) (next : NodeId) (x : RegId) → result ≡ Some x → Contains (results_of (node.Malloc size result next)) x
malloced size None next x e = absurd (cc)
malloced size (Some y) next x e = let same : y ≡ x = cc in subst (λ (z : RegId). Contains (z ∷ []) x) (sym same) (first x [])

-- neither a call nor a return
abbrev pub is_plain : Node → Bool
is_plain (node.Call callee args result next) = false
is_plain (node.Ret value) = false
is_plain _ = true

pub attempt_did : (p : ProgramData) (input : List ℕ) (n : Node) (s : State) → is_plain n ≡ true → IsAt p n s → RunDid p n s (attempt p input n s)
attempt_did p input (node.Bin op a b result next) s plain at =
    unless_did p _ s s (division_fault op (number_in s a) (number_in s b)) _ (λ e. sets_one p (node.Bin op a b result next) s result _ next [] s.events (first result []) (first next []) tt)
attempt_did p input (node.Cmp pred a b result next) s plain at = sets_one p (node.Cmp pred a b result next) s result _ next [] s.events (first result []) (first next []) tt
attempt_did p input (node.Cast op a result next) s plain at = sets_one p (node.Cast op a result next) s result _ next [] s.events (first result []) (first next []) tt
attempt_did p input (node.Gep base parts result next) s plain at = sets_one p (node.Gep base parts result next) s result _ next [] s.events (first result []) (first next []) tt
attempt_did p input (node.Select condition a b result next) s plain at = sets_one p (node.Select condition a b result next) s result _ next [] s.events (first result []) (first next []) tt
attempt_did p input (node.Alloca size result next) s plain at =
    sets_one p (node.Alloca size result next) s result (new_here s) next (Alloc (made_here s.frame) size ∷ []) s.events (first result []) (first next []) (own_change p (node.Alloca size result next) s _ at refl, tt)
attempt_did p input (node.Malloc size result next) s plain at =
    elim (nat_lt 65536 (number_in s size).bits) as (λ t. RunDid p (node.Malloc size result next) s (if t then gives_if result (Ptr null) next s else gives_if result (new_here s) next (allocated (number_in s size).bits s))) [
      | true ↦ null_did p (node.Malloc size result next) s result next (malloced size result next) (first next [])
      | false ↦ made_did p (node.Malloc size result next) s (number_in s size).bits result next (malloced size result next) (first next []) (own_change p (node.Malloc size result next) s _ at refl)
    ]
attempt_did p input (node.Free pointer next) s plain at =
    unless_did p _ s s (free_fault p s.history (address_in s pointer)) _ (λ e.
    with_added p (node.Free pointer next) s next (freed_in (address_in s pointer) []) _ (freed_on (address_in s pointer) s.history) (first next [])
    (freed_own p s.frame.func s.frame.node (node.Free pointer next) pointer (address_in s pointer).base (address_in s pointer).offset s.history at.at refl (address_within p (holder_in s.frame.func pointer) (value_in s.frame pointer) at.reads.0) e))
attempt_did p input (node.Load pointer result next) s plain at =
    unless_did p _ s s (access_fault p s.history (bytes_of_type (type_at p s.frame.func result)) (address_in s pointer)) _ (λ e.
    loaded_did p (node.Load pointer result next) s (loaded p s.history (address_in s pointer) (type_at p s.frame.func result)) result next (first result []) (first next []))
attempt_did p input (node.Store value pointer next) s plain at =
    let v = value_in s.frame value in
    unless_did p _ s s (access_fault p s.history (bytes_of_value v) (address_in s pointer)) _ (λ e.
    with_added p (node.Store value pointer next) s next (stored_in (bytes_of_value v) 0 (address_in s pointer) v []) _ (stored_on (bytes_of_value v) 0 (address_in s pointer) v s.history) (first next [])
    (stored_own p s.frame.func s.frame.node (bytes_of_value v) 0 (address_in s pointer) v []
    (may_write p s.frame.func s.frame.node (node.Store value pointer next) pointer (address_in s pointer).base at.at refl (address_within p (holder_in s.frame.func pointer) (value_in s.frame pointer) at.reads.1.0)) tt))
attempt_did p input (node.Copy from there next) s plain at =
    let b = byte_there p s.history (address_in s from) 0 in
    unless_did p _ s s (access_fault p s.history 1 (address_in s from)) _ (λ e.
    unless_did p _ s s (access_fault p s.history 1 (address_in s there)) _ (λ e'.
    with_added p (node.Copy from there next) s next (written_in (address_in s there) b 0 []) _ (written_on (address_in s there) b 0 s.history) (first next [])
    (written_own p s.frame.func s.frame.node (address_in s there).base (((address_in s there).offset + 0) % 2 ^ 64) b []
    (may_write p s.frame.func s.frame.node (node.Copy from there next) there (address_in s there).base at.at refl (address_within p (holder_in s.frame.func there) (value_in s.frame there) at.reads.1.0)) tt)))
attempt_did p input (node.In result next) s plain at =
    sets_one p (node.In result next) s result _ next (Get ∷ []) s.events (first result []) (first next []) (own_change p (node.In result next) s _ at refl, tt)
attempt_did p input (node.Put value next) s plain at = sets_none p (node.Put value next) s next (Put ((number_in s value).bits % 256) ∷ []) s.events (first next []) (own_change p (node.Put value next) s _ at refl, tt)
attempt_did p input (node.Call callee args result next) s plain at = absurd (cc)
attempt_did p input (node.Moves ms next) s plain at =
    subst (λ (frame : Frame). RunDid p (node.Moves ms next) s (to next (with_frame frame s))) (sym (set_all_is s.frame s.frame ms))
    (did (regs_all s.frame ms s.frame.regs) next [] s.events (moves_apart s.frame ms s.frame.regs) (first next []) tt)
attempt_did p input (node.Jump next) s plain at = sets_none p (node.Jump next) s next [] s.events (first next []) tt
attempt_did p input (node.Branch condition left right) s plain at =
    elim ((number_in s condition).bits == 1) as (λ t. RunDid p (node.Branch condition left right) s (if t then branches 0 left s else branches 1 right s)) [
      | true ↦ sets_none p (node.Branch condition left right) s left [] _ (first left (right ∷ [])) tt
      | false ↦ sets_none p (node.Branch condition left right) s right [] _ (second left right []) tt
    ]
attempt_did p input (node.Switch value cases otherwise) s plain at =
    sets_none p (node.Switch value cases otherwise) s (case_of (number_in s value).bits 0 cases otherwise).1 [] _ (case_leads (number_in s value).bits 0 cases otherwise) tt
attempt_did p input (node.Ret value) s plain at = absurd (cc)
attempt_did p input _ s plain at = tt
