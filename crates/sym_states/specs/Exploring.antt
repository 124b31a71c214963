-- The leaves of an exploration, in the order of its tree, and the number of its tasks.
use Rattle.std.specs.Prelude.{◌≡◌, ℕ, zero, suc, ◌+◌, ◌-◌, nat_lt, List, [], ◌∷◌, length, map, filter, Option, Some, None, slice_get}
use Rattle.std.specs.List.{flat_map}
use Rattle.terms.specs.Tree.{Tree}
use Rattle.sym_states.specs.Verdicts.{Verdict}
use Rattle.flat_ir.specs.declared.names.FuncId.{FuncId}
use Rattle.flat_ir.specs.declared.names.Location.{Location}
use Rattle.flat_ir.specs.declared.program.ProgramData.{ProgramData}
use Rattle.flat_ir.specs.declared.residual.Residual.{Residual}
use Rattle.sym_bytes.specs.declared.names.CallId.{CallId}
use Rattle.log_laws.specs.Logs.{cut}
use Rattle.write_log.specs.Memory.{with_log}
use Rattle.leaves.specs.Events.{Leaf}
use Rattle.sym_states.specs.Attempts.{attempt}
use Rattle.sym_states.specs.Merging.{merged}
use Rattle.skip_records.specs.Snapshots.{Snapshot}
use Rattle.sym_states.specs.States.{Frame, State, Context, Child, Go, Stop, Step, Goes, Forks, Needs, Ends, Needed, entered}

-- one exploration: the program, what is skipped, what calls may change, the slice of each function for each location, how many
-- bytes the input has, the limits, and the verdict on a condition over inputs of so many bytes
pub record Setting : Type 0 where
  pub program : ProgramData
  pub skips : List FuncId
  pub mods : List (List Location)
  pub slice : FuncId → Location → Residual
  pub inputs : ℕ
  pub steps : ℕ
  pub shares : ℕ
  pub verdict : List Tree → ℕ → Verdict

abbrev pub zeros : ℕ → List ℕ
zeros zero = []
zeros (suc n) = 0 ∷ zeros n

-- main at its first node, with nothing done
abbrev pub first_state : Setting → State
first_state e = record {
  frame = entered e.program None e.program.main [] [];
  callers = [];
  memory = record { globals = e.program.globals; log = [] };
  snapshots = [];
  condition = [];
  kept = zeros e.inputs;
  path = [];
  left = e.steps;
  shares = e.shares;
  target = None;
}

abbrev pub oldest : Frame → List Frame → Frame
oldest frame [] = frame
oldest frame (caller ∷ callers) = oldest caller callers

-- in a recovery the slice of its first frame's function is in force
abbrev pub residual_of : Setting → State → Option Residual
residual_of e s = elim s.target [ None ↦ None | Some target ↦ Some (e.slice (oldest s.frame s.callers).func target.at) ]

abbrev pub context_of : Setting → State → Context
context_of e s = record {
  program = e.program;
  skips = e.skips;
  mods = e.mods;
  residual = residual_of e s;
  verdict = e.verdict;
}

abbrev pub before_call : CallId → List Snapshot → List Snapshot
before_call call snapshots = filter (λ s. nat_lt s.call.0 call.0) snapshots

-- the slice of a skipped call, as it begins in the suspended state
abbrev pub recovery_of : Setting → State → Location → Snapshot → State
recovery_of e s at shot = record s {
  frame = entered e.program (Some (e.slice shot.func at)) shot.func shot.args shot.frame;
  callers = [];
  memory = with_log (cut shot.call s.memory.log) s.memory;
  snapshots = before_call shot.call s.snapshots;
  path = [];
  target = Some (record { call = shot.call; at = at; length = length (cut shot.call s.memory.log) });
}

abbrev pub recovery_if : Setting → State → Location → Option Snapshot → Child
recovery_if e s at None = Go s
recovery_if e s at (Some shot) = Go (recovery_of e s at shot)

-- the root of a needed call: calls are numbered from 1 in their order
abbrev pub root_of : Setting → State → Needed → Child
root_of e s n = recovery_if e s n.at (slice_get s.snapshots (n.call.0 - 1))

abbrev pub roots_of : Setting → State → List Needed → List Child
roots_of e s needs = map (root_of e s) needs

-- attempts up to the first that forks, needs calls or ends
pub data Reaches (e : Setting) : State → Step → Type 0 where
  forks : (s : State) (children : List Child) → attempt (context_of e s) s ≡ Forks children → Reaches e s (Forks children)
  needs : (s t : State) (calls : List Needed) → attempt (context_of e s) s ≡ Needs t calls → Reaches e s (Needs t calls)
  ends : (s : State) (l : Leaf) → attempt (context_of e s) s ≡ Ends l → Reaches e s (Ends l)
  goes : (s t : State) (end : Step) → attempt (context_of e s) s ≡ Goes t → Reaches e t end → Reaches e s end

abbrev pub all_of : List (List Leaf) → List Leaf
all_of lists = flat_map (λ leaves. leaves) lists

-- the leaves of each of some children, and how many tasks they take together
pub data Evaluates (e : Setting) : List Child → List (List Leaf) → ℕ → Type 0 where
  none : Evaluates e [] [] 0
  stop : (l : Leaf) (more : List Child) (lists : List (List Leaf)) (tasks : ℕ) →
      Evaluates e more lists tasks → Evaluates e (Stop l ∷ more) ((l ∷ []) ∷ lists) (1 + tasks)
  leaf : (s : State) (l : Leaf) (more : List Child) (lists : List (List Leaf)) (tasks : ℕ) →
      Reaches e s (Ends l) → Evaluates e more lists tasks → Evaluates e (Go s ∷ more) ((l ∷ []) ∷ lists) (1 + tasks)
  fork : (s : State) (children : List Child) (below : List (List Leaf)) (m : ℕ) (more : List Child) (lists : List (List Leaf)) (tasks : ℕ) →
      Reaches e s (Forks children) → Evaluates e children below m →
      Evaluates e more lists tasks → Evaluates e (Go s ∷ more) (all_of below ∷ lists) (m + 1 + tasks)
  await : (s t : State) (calls : List Needed) (results : List (List Leaf)) (k : ℕ)
      (children : List Child) (below : List (List Leaf)) (m : ℕ) (more : List Child) (lists : List (List Leaf)) (tasks : ℕ) →
      Reaches e s (Needs t calls) → Evaluates e (roots_of e t calls) results k →
      merged (context_of e t) t calls results ≡ Forks children → Evaluates e children below m →
      Evaluates e more lists tasks → Evaluates e (Go s ∷ more) (all_of below ∷ lists) (m + (k + 2) + tasks)
  crowd : (s t : State) (calls : List Needed) (results : List (List Leaf)) (k : ℕ) (l : Leaf)
      (more : List Child) (lists : List (List Leaf)) (tasks : ℕ) →
      Reaches e s (Needs t calls) → Evaluates e (roots_of e t calls) results k →
      merged (context_of e t) t calls results ≡ Ends l →
      Evaluates e more lists tasks → Evaluates e (Go s ∷ more) ((l ∷ []) ∷ lists) (k + 2 + tasks)

-- the exploration of a setting has these leaves and takes so many tasks
abbrev pub Explores : Setting → List Leaf → ℕ → Type 0
Explores e leaves tasks = Evaluates e (Go (first_state e) ∷ []) (leaves ∷ []) tasks
