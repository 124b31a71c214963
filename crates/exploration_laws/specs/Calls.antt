-- Calls are kept: snapshots are numbered from 1 in their order, the log has a mark of each call that has a snapshot and of no other,
-- and each mark has what a call of its function may change.
use Rattle.std.specs.Prelude.{◌≡◌, ℕ, ◌+◌, ◌<◌, List, [], ◌∷◌, ◌++◌, length, map, unwrap_or, slice_get}
use Rattle.std.specs.List.{AllByRecursion as Each}
use Rattle.flat_ir.specs.declared.names.Location.{Location}
use Rattle.sym_bytes.specs.declared.names.CallId.{CallId}
use Rattle.sym_bytes.specs.Answers.{Want}
use Rattle.leaves.specs.Events.{Leaf}
use Rattle.log_laws.specs.Logs.{Log, Did, Marked}
use Rattle.log_laws.specs.Needs.{need}
use Rattle.sym_states.specs.Attempts.{attempt}
use Rattle.sym_states.specs.Exploring.{Setting, first_state, roots_of}
use Rattle.sym_states.specs.Merging.{merged}
use Rattle.skip_records.specs.Snapshots.{Snapshot}
use Rattle.sym_states.specs.States.{State, Context, Child, Go, Stop, Step, Goes, Forks, Needs, Ends, Needed}
use Rattle.exploration_laws.specs.Open.{Rise}

-- a skipped call, and what a call of its function may change
pub record Skip : Type 0 where
  pub call : CallId
  pub mods : List Location

-- the marks of a log, the oldest first
abbrev pub marks_of : Log → List Skip
marks_of [] = []
marks_of (Did e ∷ log) = marks_of log
marks_of (Marked call mods fills ∷ log) = marks_of log ++ record { call = call; mods = mods } ∷ []

-- the skipped call of a snapshot, where calls of each function may change what the list has at the function's number
abbrev pub skip_of : List (List Location) → Snapshot → Skip
skip_of mods shot = record { call = shot.call; mods = unwrap_or (slice_get mods shot.func.0) [] }

abbrev pub skips_of : List (List Location) → List Snapshot → List Skip
skips_of mods shots = map (skip_of mods) shots

-- calls are numbered in their order, from a number on
abbrev pub NumberedFrom : ℕ → List Skip → Type 0
NumberedFrom k [] = Unit {0}
NumberedFrom k (s ∷ ss) = (s.call.0 ≡ k) × NumberedFrom (k + 1) ss

-- the calls of a log and of snapshots
pub record AreKept (mods : List (List Location)) (log : Log) (shots : List Snapshot) : Type 0 where
  pub numbered : NumberedFrom 1 (skips_of mods shots)
  pub marked : marks_of log ≡ skips_of mods shots

abbrev pub CallsAreKept : List (List Location) → State → Type 0
CallsAreKept mods s = AreKept mods s.memory.log s.snapshots

abbrev pub ChildKeepsCalls : List (List Location) → Child → Type 0
ChildKeepsCalls mods (Go s) = CallsAreKept mods s
ChildKeepsCalls mods (Stop l) = Unit {0}

abbrev pub StepKeepsCalls : List (List Location) → Step → Type 0
StepKeepsCalls mods (Goes s) = CallsAreKept mods s
StepKeepsCalls mods (Forks cs) = Each (ChildKeepsCalls mods) cs
StepKeepsCalls mods (Needs s calls) = CallsAreKept mods s
StepKeepsCalls mods (Ends l) = Unit {0}

-- ---- the laws

abbrev pub FirstsKeepCalls : Type 0
FirstsKeepCalls = (e : Setting) → CallsAreKept e.mods (first_state e)

abbrev pub AttemptsKeepCalls : Type 0
AttemptsKeepCalls = (c : Context) (s : State) → CallsAreKept c.mods s → StepKeepsCalls c.mods (attempt c s)

abbrev pub RootsKeepCalls : Type 0
RootsKeepCalls = (e : Setting) (s : State) (calls : List Needed) → CallsAreKept e.mods s → Each (ChildKeepsCalls e.mods) (roots_of e s calls)

-- whatever the leaves of the recoveries are
abbrev pub MergesKeepCalls : Type 0
MergesKeepCalls = (c : Context) (s : State) (calls : List Needed) (results : List (List Leaf)) → CallsAreKept c.mods s → StepKeepsCalls c.mods (merged c s calls results)

-- what is needed for what is wanted of the log are calls of snapshots, each once
abbrev pub NeedsAreCalls : Type 0
NeedsAreCalls = (mods : List (List Location)) (w : Want) (s : State) → CallsAreKept mods s
    → Each (λ c. c.0 < length s.snapshots + 1) (need w s.memory.log) × Rise (need w s.memory.log)
