-- Pending results name calls that were skipped before, with the type of what their functions return; and calls that are needed are
-- skipped ones whose changes or results aren't known.
use Rattle.std.specs.Prelude.{◌≡◌, ◌⊎◌, ℕ, ◌+◌, ◌-◌, ◌<◌, List, [], ◌∷◌, length, map, filter, Option, Some, None, slice_get, nat_lt, true}
use Rattle.std.specs.List.{AllByRecursion as Each, list_any}
use Rattle.flat_ir.specs.declared.names.Location.{Location}
use Rattle.flat_ir.specs.declared.names.Location.TheVariants as location
use Rattle.flat_ir.specs.declared.nodes.Operand.{Operand}
use Rattle.flat_ir.specs.declared.nodes.RegType.{RegType}
use Rattle.flat_ir.specs.declared.program.ProgramData.{ProgramData}
use Rattle.flat_ir.specs.Machine.{func_at}
use Rattle.flat_ir.specs.Locations.{same_location}
use Rattle.sym_bytes.specs.declared.names.CallId.{CallId}
use Rattle.sym_bytes.specs.Answers.{Join, Needs as Needing}
use Rattle.sym_bytes.specs.Byte as byte
use Rattle.sym_bytes.specs.Byte.{SymByte}
use Rattle.sym_bytes.specs.Entry as entry
use Rattle.sym_bytes.specs.Entry.{Entry}
use Rattle.sym_bytes.specs.Value as value
use Rattle.sym_bytes.specs.Value.{SymValue}
use Rattle.log_laws.specs.Logs.{Log, Did, Marked}
use Rattle.leaves.specs.Events.{Event, Branch, Load, Recovered, Leaf, Done, told_of}
use Rattle.skip_records.specs.Snapshots.{Snapshot}
use Rattle.sym_states.specs.declared.frames.Target.{Target}
use Rattle.sym_states.specs.Attempts.{result_type, attempt}
use Rattle.sym_states.specs.Exploring.{Setting, first_state, roots_of, Evaluates, Explores}
use Rattle.sym_states.specs.Merging.{merged}
use Rattle.sym_states.specs.States.{Frame, State, Context, Child, Go, Stop, Step, Goes, Forks, Needs, Ends, Needed, needs_at}
use Rattle.sym_states.specs.Terms.{pending_in, byte_resolved, joined_as}
use Rattle.exploration_laws.specs.Calls.{skip_of, AreKept}
use Rattle.exploration_laws.specs.Open.{IsOpenIn, Rise}

-- ---- what a pending result names

-- a skipped call, and the type of what its function returns
pub record Kind : Type 0 where
  pub call : CallId
  pub result : Option RegType

abbrev pub kind_of : ProgramData → Snapshot → Kind
kind_of p s = record { call = s.call; result = result_type (func_at p s.func) }

abbrev pub kinds_of : ProgramData → List Snapshot → List Kind
kinds_of p shots = map (kind_of p) shots

-- the call is one of these, and returns a value of the type
abbrev pub Returns : List Kind → CallId → RegType → Type 0
Returns [] call t = ⊥
Returns (k ∷ ks) call t = ((k.call.0 ≡ call.0) × (k.result ≡ Some t)) ⊎ Returns ks call t

-- and it is older than the bound
abbrev pub Earlier : List Kind → ℕ → CallId → RegType → Type 0
Earlier ks bound call t = (call.0 < bound) × Returns ks call t

abbrev pub ValueNames : (CallId → RegType → Type 0) → SymValue → Type 0
ValueNames P (value.Int t) = Unit {0}
ValueNames P (value.Ptr p) = Unit {0}
ValueNames P (value.Pending c t) = P c t

abbrev pub ValueNamesIf : (CallId → RegType → Type 0) → Option SymValue → Type 0
ValueNamesIf P None = Unit {0}
ValueNamesIf P (Some v) = ValueNames P v

abbrev pub FrameNames : (CallId → RegType → Type 0) → Frame → Type 0
FrameNames P f = Each (ValueNamesIf P) f.regs

abbrev pub ByteNames : (CallId → RegType → Type 0) → SymByte → Type 0
ByteNames P (byte.Int t) = Unit {0}
ByteNames P (byte.PtrByte p j) = Unit {0}
ByteNames P (byte.PendingByte c t j) = P c t

abbrev pub EntryNames : (CallId → RegType → Type 0) → Entry → Type 0
EntryNames P (entry.Write x offset bytes) = Each (ByteNames P) bytes
EntryNames P _ = Unit {0}

abbrev pub EventNames : (CallId → RegType → Type 0) → Event → Type 0
EventNames P (Branch func node side) = Unit {0}
EventNames P (Load func node v) = ValueNames P v

-- what the log wrote, and what is recovered of a call, names older calls than the marks above it and than that call
abbrev pub LogNames : List Kind → ℕ → Log → Type 0
LogNames ks bound [] = Unit {0}
LogNames ks bound (Did e ∷ log) = EntryNames (Earlier ks bound) e × LogNames ks bound log
LogNames ks bound (Marked c mods fills ∷ log) = (c.0 < bound) × (Each (λ f. Each (EntryNames (Earlier ks c.0)) f.entries) fills × LogNames ks c.0 log)

-- the arguments and the result of a skipped call name older ones
abbrev pub SnapshotNames : List Kind → Snapshot → Type 0
SnapshotNames ks s = Each (ValueNames (Earlier ks s.call.0)) s.args × ValueNamesIf (Earlier ks s.call.0) s.result

-- a recovery knows the calls before its own
abbrev pub bound_of : Option Target → List Snapshot → ℕ
bound_of None shots = length shots + 1
bound_of (Some target) shots = target.call.0

pub record AreNamed (p : ProgramData) (mods : List (List Location)) (newest : Frame) (others : List Frame) (items : Log) (shots : List Snapshot) (events : List Event) (target : Option Target) : Type 0 where
  pub calls : AreKept mods items shots
  pub frame : FrameNames (Earlier (kinds_of p shots) (bound_of target shots)) newest
  pub callers : Each (FrameNames (Earlier (kinds_of p shots) (bound_of target shots))) others
  pub log : LogNames (kinds_of p shots) (bound_of target shots) items
  pub snapshots : Each (SnapshotNames (kinds_of p shots)) shots
  pub path : Each (EventNames (Earlier (kinds_of p shots) (bound_of target shots))) events

-- calls are kept, and each pending result in the state names an earlier one, with its type
abbrev pub PendingsAreNamed : ProgramData → List (List Location) → State → Type 0
PendingsAreNamed p mods s = AreNamed p mods s.frame s.callers s.memory.log s.snapshots s.path s.target

-- ---- what is needed

-- what is needed of a skipped call: changes in a location that a call of its function may change, and for which its mark has no fill;
-- or its result, which isn't recovered
pub data IsUnknown (mods : List (List Location)) (s : State) (n : Needed) (shot : Snapshot) : Type 0 where
  changed : list_any (same_location n.at) (skip_of mods shot).mods ≡ true → IsOpenIn n.call n.at s.memory.log → IsUnknown mods s n shot
  returned : n.at ≡ location.Result → shot.result ≡ None → IsUnknown mods s n shot

pub record IsNeeded (mods : List (List Location)) (s : State) (n : Needed) : Type 0 where
  pub shot : Snapshot
  pub found : slice_get s.snapshots (n.call.0 - 1) ≡ Some shot
  pub is : shot.call.0 ≡ n.call.0
  pub unknown : IsUnknown mods s n shot

-- no call stands twice with one location
abbrev pub NoneTwice : List Needed → Type 0
NoneTwice [] = Unit {0}
NoneTwice (n ∷ ns) = Each (λ m. m.call.0 ≡ n.call.0 → m.at ≡ n.at → ⊥) ns × NoneTwice ns

abbrev pub AreNeeded : List (List Location) → State → List Needed → Type 0
AreNeeded mods s ns = Each (IsNeeded mods s) ns × NoneTwice ns

-- where bytes make a value of a type, or need results of calls
abbrev pub JoinNeeds : List (List Location) → State → Join → Type 0
JoinNeeds mods s (Needing calls) = AreNeeded mods s (needs_at location.Result calls)
JoinNeeds mods s _ = Unit {0}

-- ---- what is given

-- a recovery: the calls that were skipped before its own, and that one
pub record Recovery : Type 0 where
  pub kinds : List Kind
  pub call : CallId

abbrev pub recovery_in : ProgramData → Option Target → List Snapshot → Option Recovery
recovery_in p None shots = None
recovery_in p (Some target) shots = Some (record { kinds = kinds_of p shots; call = target.call })

-- what a recovery gives names older calls than its own
abbrev pub DoneNames : Option Recovery → List Entry → Option SymValue → Type 0
DoneNames None entries result = Unit {0}
DoneNames (Some r) entries result = Each (EntryNames (Earlier r.kinds r.call.0)) entries × ValueNamesIf (Earlier r.kinds r.call.0) result

abbrev pub EndNames : Option Recovery → Leaf → Type 0
EndNames r (Done told entries result) = DoneNames r entries result
EndNames r _ = Unit {0}

-- recovered results name older calls than their own
abbrev pub ResultsName : List Recovered → Type 0
ResultsName rs = Each (λ r. ValueNames (λ c t. c.0 < r.call.0) r.value) rs

-- so do those that a leaf tells
abbrev pub LeafNames : Option Recovery → Leaf → Type 0
LeafNames r l = ResultsName (told_of l).results × EndNames r l

-- the state's pending results are named, and it stands in this recovery, or in none
abbrev pub StateNames : ProgramData → List (List Location) → Option Recovery → State → Type 0
StateNames p mods r s = PendingsAreNamed p mods s × (recovery_in p s.target s.snapshots ≡ r)

abbrev pub ChildNames : ProgramData → List (List Location) → Option Recovery → Child → Type 0
ChildNames p mods r (Go s) = StateNames p mods r s
ChildNames p mods r (Stop l) = LeafNames r l

abbrev pub StepNames : ProgramData → List (List Location) → Option Recovery → Step → Type 0
StepNames p mods r (Goes s) = StateNames p mods r s
StepNames p mods r (Forks cs) = Each (ChildNames p mods r) cs
StepNames p mods r (Needs s calls) = StateNames p mods r s × AreNeeded mods s calls
StepNames p mods r (Ends l) = LeafNames r l

-- each child stands in the recovery beside it, or in none
abbrev pub EachChildNames : ProgramData → List (List Location) → List (Option Recovery) → List Child → Type 0
EachChildNames p mods [] [] = Unit {0}
EachChildNames p mods [] (c ∷ cs) = ⊥
EachChildNames p mods (r ∷ rs) [] = ⊥
EachChildNames p mods (r ∷ rs) (c ∷ cs) = ChildNames p mods r c × EachChildNames p mods rs cs

-- so does each leaf of the list beside it
abbrev pub ListsName : List (Option Recovery) → List (List Leaf) → Type 0
ListsName [] [] = Unit {0}
ListsName [] (ls ∷ lists) = ⊥
ListsName (r ∷ rs) [] = ⊥
ListsName (r ∷ rs) (ls ∷ lists) = Each (LeafNames r) ls × ListsName rs lists

-- the recovery of a needed call
abbrev pub older : CallId → List Kind → List Kind
older call ks = filter (λ k. nat_lt k.call.0 call.0) ks

abbrev pub recovery_for : ProgramData → State → Needed → Option Recovery
recovery_for p s n = Some (record { kinds = older n.call (kinds_of p s.snapshots); call = n.call })

-- ---- the laws

abbrev pub FirstsName : Type 0
FirstsName = (e : Setting) → PendingsAreNamed e.program e.mods (first_state e)

abbrev pub AttemptsName : Type 0
AttemptsName = (c : Context) (s : State) → PendingsAreNamed c.program c.mods s
    → StepNames c.program c.mods (recovery_in c.program s.target s.snapshots) (attempt c s)

abbrev pub RootsName : Type 0
RootsName = (e : Setting) (s : State) (calls : List Needed) → PendingsAreNamed e.program e.mods s → Each (IsNeeded e.mods s) calls
    → EachChildNames e.program e.mods (map (recovery_for e.program s) calls) (roots_of e s calls)

abbrev pub MergesName : Type 0
MergesName = (c : Context) (s : State) (calls : List Needed) (results : List (List Leaf)) → PendingsAreNamed c.program c.mods s
    → ListsName (map (recovery_for c.program s) calls) results
    → StepNames c.program c.mods (recovery_in c.program s.target s.snapshots) (merged c s calls results)

abbrev pub EvaluationsName : Type 0
EvaluationsName = (e : Setting) (rs : List (Option Recovery)) (children : List Child) (lists : List (List Leaf)) (tasks : ℕ)
    → EachChildNames e.program e.mods rs children → Evaluates e children lists tasks → ListsName rs lists

-- the leaves of a whole exploration tell results that name older calls
abbrev pub ExplorationsName : Type 0
ExplorationsName = (e : Setting) (leaves : List Leaf) (tasks : ℕ) → Explores e leaves tasks → Each (λ l. ResultsName (told_of l).results) leaves

-- the operands that wait for results
abbrev pub ValuesNeed : Type 0
ValuesNeed = (c : Context) (s : State) (operands : List Operand) → PendingsAreNamed c.program c.mods s
    → AreNeeded c.mods s (needs_at location.Result (pending_in s operands))

-- the bytes that wait for results, where each names a call of the state
abbrev pub BytesNeed : Type 0
BytesNeed = (c : Context) (s : State) (t : RegType) (bytes : List SymByte) → PendingsAreNamed c.program c.mods s
    → Each (ByteNames (Earlier (kinds_of c.program s.snapshots) (bound_of s.target s.snapshots))) bytes
    → JoinNeeds c.mods s (joined_as t (map (byte_resolved s.snapshots) bytes))

-- an attempt needs skipped calls alone, and none of them twice
abbrev pub AttemptsNeed : Type 0
AttemptsNeed = (c : Context) (s t : State) (calls : List Needed) → PendingsAreNamed c.program c.mods s → attempt c s ≡ Needs t calls → AreNeeded c.mods t calls
