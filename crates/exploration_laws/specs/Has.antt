-- What leaves have: each that isn't open keeps an input; outside of recoveries none is Done, and in one none is Complete.
use Rattle.std.specs.Prelude.{◌≡◌, ℕ, ◌-◌, true, List, [], ◌∷◌, length, Option, Some, None, slice_get}
use Rattle.std.specs.List.{AllByRecursion as Each}
use Rattle.flat_ir.specs.declared.names.Location.{Location}
use Rattle.flat_ir.specs.declared.names.Location.TheVariants as location
use Rattle.sym_bytes.specs.Entry.{Entry}
use Rattle.sym_bytes.specs.Value.{SymValue}
use Rattle.log_laws.specs.Logs.{cut, lies_in}
use Rattle.leaves.specs.Events.{Leaf, Complete, Fault, Skipped, Open, Done}
use Rattle.sym_states.specs.declared.frames.Target.{Target}
use Rattle.sym_states.specs.Attempts.{attempt}
use Rattle.sym_states.specs.Exploring.{Setting, roots_of, Evaluates}
use Rattle.sym_states.specs.Merging.{merged}
use Rattle.skip_records.specs.Snapshots.{Snapshot}
use Rattle.sym_states.specs.States.{State, Context, Child, Go, Stop, Step, Goes, Forks, Needs, Ends, Needed}

abbrev pub IsGiven : {A : Type 0} → Option A → Type 0
IsGiven None = ⊥
IsGiven (Some x) = Unit {0}

abbrev pub IsOutside : Option Target → Type 0
IsOutside None = Unit {0}
IsOutside (Some target) = ⊥

-- a result is given for the location Result alone
abbrev pub ResultLiesIn : Location → Option SymValue → Type 0
ResultLiesIn location.Result result = Unit {0}
ResultLiesIn _ result = result ≡ None

-- what a recovery gives lies in its location
abbrev pub DoneLiesIn : Option Target → List Entry → Option SymValue → Type 0
DoneLiesIn None entries result = ⊥
DoneLiesIn (Some target) entries result = Each (λ e. lies_in target.at e ≡ true) entries × ResultLiesIn target.at result

-- what a leaf has that stands in this recovery, or in none
abbrev pub LeafHas : Leaf → Option Target → Type 0
LeafHas (Complete told status output) at = IsOutside at × IsGiven told.kept
LeafHas (Fault told kind func n output) at = IsGiven told.kept
LeafHas (Skipped told kind func n) at = IsGiven told.kept
LeafHas (Open told cause) at = Unit {0}
LeafHas (Done told entries result) at = DoneLiesIn at entries result × IsGiven told.kept

-- a child stands in this recovery, or in none
abbrev pub ChildHas : Option Target → Child → Type 0
ChildHas at (Go s) = s.target ≡ at
ChildHas at (Stop l) = LeafHas l at

abbrev pub ChildrenHave : Option Target → List Child → Type 0
ChildrenHave at [] = Unit {0}
ChildrenHave at (c ∷ cs) = ChildHas at c × ChildrenHave at cs

abbrev pub StepHas : Option Target → Step → Type 0
StepHas at (Goes s) = s.target ≡ at
StepHas at (Forks cs) = ChildrenHave at cs
StepHas at (Needs s calls) = s.target ≡ at
StepHas at (Ends l) = LeafHas l at

-- each child stands in the recovery beside it, or in none
abbrev pub EachChildHas : List (Option Target) → List Child → Type 0
EachChildHas [] [] = Unit {0}
EachChildHas [] (c ∷ cs) = ⊥
EachChildHas (at ∷ ats) [] = ⊥
EachChildHas (at ∷ ats) (c ∷ cs) = ChildHas at c × EachChildHas ats cs

-- so does each leaf of the list beside it
abbrev pub ListsHave : List (Option Target) → List (List Leaf) → Type 0
ListsHave [] [] = Unit {0}
ListsHave [] (ls ∷ lists) = ⊥
ListsHave (at ∷ ats) [] = ⊥
ListsHave (at ∷ ats) (ls ∷ lists) = Each (λ l. LeafHas l at) ls × ListsHave ats lists

-- a call is recovered for the location, with its log cut before it; one that has no snapshot begins no recovery
abbrev pub target_if : State → Location → Option Snapshot → Option Target
target_if s at None = s.target
target_if s at (Some shot) = Some (record { call = shot.call; at = at; length = length (cut shot.call s.memory.log) })

-- the recoveries of needed calls
abbrev pub targets_of : State → List Needed → List (Option Target)
targets_of s [] = []
targets_of s (n ∷ needs) = target_if s n.at (slice_get s.snapshots (n.call.0 - 1)) ∷ targets_of s needs

-- ---- the laws

abbrev pub AttemptsHave : Type 0
AttemptsHave = (c : Context) (s : State) → StepHas s.target (attempt c s)

abbrev pub RootsHave : Type 0
RootsHave = (e : Setting) (s : State) (calls : List Needed) → EachChildHas (targets_of s calls) (roots_of e s calls)

-- whatever the leaves of the recoveries are
abbrev pub MergesHave : Type 0
MergesHave = (c : Context) (s : State) (calls : List Needed) (results : List (List Leaf)) → StepHas s.target (merged c s calls results)

abbrev pub EvaluationsHave : Type 0
EvaluationsHave = (e : Setting) (ats : List (Option Target)) (children : List Child) (lists : List (List Leaf)) (tasks : ℕ)
    → EachChildHas ats children → Evaluates e children lists tasks → ListsHave ats lists
