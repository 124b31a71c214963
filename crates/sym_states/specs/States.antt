-- A symbolic state, and what an attempt of its node gives, with no table of terms in them. All is total: a register that isn't
-- set is null, a node that isn't there is Unreachable, a count that isn't kept is 0, and a slice that doesn't know a node leads
-- nowhere from it; a program that was checked meets none of these.
use Rattle.std.specs.Prelude.{ℕ, ◌+◌, List, [], ◌∷◌, ◌++◌, map, drop, length, Option, Some, None, unwrap_or, slice_get, slice_set}
use Rattle.terms.specs.Tree.{Tree}
use Rattle.sym_states.specs.Verdicts.{Verdict}
use Rattle.flat_ir.specs.declared.names.CallStep.{CallStep}
use Rattle.flat_ir.specs.declared.names.FuncId.{FuncId}
use Rattle.flat_ir.specs.declared.names.NodeId.{NodeId}
use Rattle.flat_ir.specs.declared.names.RegId.{RegId}
use Rattle.flat_ir.specs.declared.names.Location.{Location}
use Rattle.flat_ir.specs.declared.names.ObjectName.{ObjectName}
use Rattle.flat_ir.specs.declared.names.ObjectName.TheVariants as object
use Rattle.flat_ir.specs.declared.nodes.Node.{Node}
use Rattle.flat_ir.specs.declared.program.ProgramData.{ProgramData}
use Rattle.flat_ir.specs.declared.residual.Kept.{Kept}
use Rattle.flat_ir.specs.declared.residual.Next.{Next}
use Rattle.flat_ir.specs.declared.residual.Next.TheVariants as next
use Rattle.flat_ir.specs.declared.residual.Residual.{Residual}
use Rattle.flat_ir.specs.Machine.{node_at, nodes_of, regs_of, func_at}
use Rattle.flat_ir.specs.Whole.{successors_of}
use Rattle.sym_bytes.specs.declared.names.CallId.{CallId}
use Rattle.sym_bytes.specs.Entry.{Entry}
use Rattle.sym_bytes.specs.Value.{SymValue}
use Rattle.log_laws.specs.Logs.{Did}
use Rattle.write_log.specs.Memory.{Memory, with_item}
use Rattle.skip_records.specs.Snapshots.{Snapshot}
use Rattle.leaves.specs.declared.options.Cause.{Cause}
use Rattle.leaves.specs.Events as leaf
use Rattle.leaves.specs.Events.{Event, Recovered, Told, Leaf}
use Rattle.sym_states.specs.declared.frames.Place.{Place}
use Rattle.sym_states.specs.declared.frames.Place.TheVariants.{At, End, Never}
use Rattle.sym_states.specs.declared.frames.Target.{Target}

-- A function at a place, its registers, its name, the newest call first, and how often it has executed each node. The place of
-- a frame that isn't the newest is its call.
pub record Frame : Type 0 where
  pub func : FuncId
  pub place : Place
  pub regs : List (Option SymValue)
  pub name : List CallStep
  pub counts : List ℕ

-- The newest frame, and those that called it, the newest first; memory; the skipped calls, the oldest first; the condition, and
-- the least input that meets it; the branches and loads, the oldest first; the steps left, and the leaves that the state may
-- still make; and in a recovery what that is for.
pub record State : Type 0 where
  pub frame : Frame
  pub callers : List Frame
  pub memory : Memory
  pub snapshots : List Snapshot
  pub condition : List Tree
  pub kept : List ℕ
  pub path : List Event
  pub left : ℕ
  pub shares : ℕ
  pub target : Option Target

-- what an attempt takes from outside of its state: the program, the functions whose calls are skipped, what a call of each
-- function may change, the slice that is in force in a recovery, and the verdict on a condition over inputs of so many bytes
pub record Context : Type 0 where
  pub program : ProgramData
  pub skips : List FuncId
  pub mods : List (List Location)
  pub residual : Option Residual
  pub verdict : List Tree → ℕ → Verdict

-- a state goes on, or ends in a leaf at once
pub data Child : Type 0 where
  Go : State → Child
  Stop : Leaf → Child

-- a skipped call, and the location of which its changes are needed
pub record Needed : Type 0 where
  pub call : CallId
  pub at : Location

-- what an attempt gives: the next state, children, calls that are needed first, or a leaf
pub data Step : Type 0 where
  Goes : State → Step
  Forks : List Child → Step
  Needs : State → List Needed → Step
  Ends : Leaf → Step

-- the results of skipped calls that are recovered
abbrev pub results_of : List Snapshot → List Recovered
results_of [] = []
results_of (s ∷ more) = elim s.result [ None ↦ results_of more | Some v ↦ record { call = s.call; value = v } ∷ results_of more ]

abbrev pub told_with : Option (List ℕ) → List Tree → State → Told
told_with kept condition s = record { condition = condition; kept = kept; path = s.path; results = results_of s.snapshots; left = s.left }

abbrev pub told : State → Told
told s = told_with (Some s.kept) s.condition s

abbrev pub opens : Cause → State → Step
opens cause s = Ends (leaf.Open (told s) cause)

abbrev pub in_frame : Frame → State → State
in_frame frame s = record s { frame = frame }

-- with one entry more
abbrev pub appended : Entry → State → State
appended e s = record s { memory = with_item (Did e) s.memory }

-- with one branch or load more
abbrev pub shown : Event → State → State
shown event s = record s { path = s.path ++ event ∷ [] }

-- the node of a place; an end has none
abbrev pub node_of : Place → NodeId
node_of (At n) = n
node_of End = record { 0 = 0 }
node_of (Never n) = n

abbrev pub here : State → NodeId
here s = node_of s.frame.place

abbrev pub code_of : ProgramData → Frame → Node
code_of p frame = node_at p frame.func (node_of frame.place)

-- how often the frame has executed its node
abbrev pub count_at : Frame → ℕ
count_at frame = unwrap_or (slice_get frame.counts (node_of frame.place).0) 0

-- the execution of its node that the frame makes now
abbrev pub step_now : Frame → CallStep
step_now frame = record { func = frame.func; node = node_of frame.place; count = count_at frame + 1 }

-- the object that the frame's node makes now
abbrev pub made_now : Frame → ObjectName
made_now frame = object.Made frame.name (step_now frame)

-- the name of the frame that the frame's call makes now
abbrev pub name_below : Frame → List CallStep
name_below frame = step_now frame ∷ frame.name

-- the frame has executed its node once more
abbrev pub counted : Frame → Frame
counted frame = record frame { counts = slice_set frame.counts (node_of frame.place).0 (count_at frame + 1) }

abbrev pub set : RegId → SymValue → Frame → Frame
set r v frame = record frame { regs = slice_set frame.regs r.0 (Some v) }

abbrev pub set_if : Option RegId → Option SymValue → Frame → Frame
set_if None v frame = frame
set_if (Some r) None frame = frame
set_if (Some r) (Some v) frame = set r v frame

-- where a slice leads from a node
abbrev pub place_in : NodeId → Next → Place
place_in at (next.Node n) = At n
place_in at next.End = End
place_in at next.Never = Never at

abbrev pub nexts_in : Option Kept → List (Option (List Next))
nexts_in None = []
nexts_in (Some kept) = kept.nexts

abbrev pub nexts_at : Option (Option (List Next)) → List Next
nexts_at (Some (Some nexts)) = nexts
nexts_at (Some None) = []
nexts_at None = []

-- where successor k of a function's node leads in a slice
abbrev pub next_in : Residual → FuncId → NodeId → ℕ → Next
next_in residual f n k = unwrap_or (slice_get (nexts_at (slice_get (nexts_in (slice_get residual.funcs f.0)) n.0)) k) next.Never

abbrev pub start_in : Option Kept → Next
start_in None = next.Never
start_in (Some kept) = kept.start

-- the first node of each function
abbrev pub first_node : NodeId
first_node = record { 0 = 0 }

-- where successor k of the frame's node leads
abbrev pub place_after : ProgramData → Option Residual → ℕ → Frame → Place
place_after p None k frame = At (unwrap_or (slice_get (successors_of (code_of p frame)) k) first_node)
place_after p (Some residual) k frame = place_in (node_of frame.place) (next_in residual frame.func (node_of frame.place) k)

abbrev pub moved : Context → ℕ → Frame → Frame
moved c k frame = record frame { place = place_after c.program c.residual k frame }

-- where a function begins
abbrev pub place_first : Option Residual → FuncId → Place
place_first None f = At first_node
place_first (Some residual) f = place_in first_node (start_in (slice_get residual.funcs f.0))

-- the frame that a call makes: its parameters are the first registers
abbrev pub entered : ProgramData → Option Residual → FuncId → List SymValue → List CallStep → Frame
entered p residual f args name = record {
  func = f;
  place = place_first residual f;
  regs = map Some args ++ map (λ r. None) (drop (length args) (regs_of (func_at p f)));
  name = name;
  counts = map (λ n. 0) (nodes_of (func_at p f));
}

-- The node is done: it is counted, sets its register, and the frame goes on at its first successor. Up to here the state has the
-- counts from before, so that a node that is attempted again makes the same names.
abbrev pub gives : Context → Option RegId → Option SymValue → State → Step
gives c r v s = Goes (in_frame (moved c 0 (set_if r v (counted s.frame))) s)

abbrev pub goes_on : Context → State → Step
goes_on c s = gives c None None s

-- a part of an attempt goes on with what it made, or it has given the attempt's answer
pub data Flow (A : Type 0) : Type 0 where
  On : A → Flow A
  Over : Step → Flow A

abbrev pub then_flow : {A B : Type 0} → Flow A → (A → Flow B) → Flow B
then_flow (On x) next = next x
then_flow (Over step) next = Over step

abbrev pub then_step : {A : Type 0} → Flow A → (A → Step) → Step
then_step (On x) next = next x
then_step (Over step) next = step

abbrev pub needs_at : Location → List CallId → List Needed
needs_at at calls = map (λ c. record { call = c; at = at }) calls

-- goes on where no call is needed
abbrev pub unless_needed : Location → List CallId → State → Flow State
unless_needed at [] s = On s
unless_needed at (c ∷ calls) s = Over (Needs s (needs_at at (c ∷ calls)))
