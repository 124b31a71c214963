-- The steps left fall at forks and at calls that are needed, and nothing that is given has more.
use Rattle.std.specs.Prelude.{◌≡◌, ℕ, ◌<◌, ◌≤◌, List, [], ◌∷◌, Option, Some, None}
use Rattle.leaves.specs.Events.{Leaf, told_of}
use Rattle.sym_states.specs.declared.frames.Place.{Place}
use Rattle.sym_states.specs.declared.frames.Place.TheVariants.{At, End, Never}
use Rattle.sym_states.specs.declared.frames.Target.{Target}
use Rattle.sym_states.specs.Attempts.{attempt}
use Rattle.sym_states.specs.Exploring.{Setting, context_of, roots_of}
use Rattle.sym_states.specs.Merging.{merged}
use Rattle.sym_states.specs.States.{State, Context, Child, Go, Stop, Step, Goes, Forks, Needs, Ends, Needed}

-- outside of recoveries a frame stands at a node
abbrev pub IsPlacedIn : Option Target → Place → Type 0
IsPlacedIn None (At n) = Unit {0}
IsPlacedIn None End = ⊥
IsPlacedIn None (Never n) = ⊥
IsPlacedIn (Some target) place = Unit {0}

abbrev pub IsPlaced : State → Type 0
IsPlaced s = IsPlacedIn s.target s.frame.place

-- the steps that a child has left
abbrev pub left_of : Child → ℕ
left_of (Go s) = s.left
left_of (Stop l) = (told_of l).left

abbrev pub ChildIsPlaced : Child → Type 0
ChildIsPlaced (Go s) = IsPlaced s
ChildIsPlaced (Stop l) = Unit {0}

-- behind a step: each child has fewer steps left
abbrev pub ChildrenFall : ℕ → List Child → Type 0
ChildrenFall left [] = Unit {0}
ChildrenFall left (c ∷ cs) = ((left_of c < left) × ChildIsPlaced c) × ChildrenFall left cs

-- children that have no more steps left
abbrev pub ChildrenHaveNoMore : ℕ → List Child → Type 0
ChildrenHaveNoMore left [] = Unit {0}
ChildrenHaveNoMore left (c ∷ cs) = ((left_of c ≤ left) × ChildIsPlaced c) × ChildrenHaveNoMore left cs

-- what is given of a state with so many steps left; a call that is needed is one at least
abbrev pub StepFalls : ℕ → Step → Type 0
StepFalls left (Goes s) = (s.left ≤ left) × IsPlaced s
StepFalls left (Forks cs) = ChildrenFall left cs
StepFalls left (Needs s calls) = ((s.left < left) × IsPlaced s) × (calls ≡ [] → ⊥)
StepFalls left (Ends l) = (told_of l).left ≤ left

-- what becomes of a suspended state is a fork or an end, with no more steps left
abbrev pub MergeHasNoMore : ℕ → Step → Type 0
MergeHasNoMore left (Goes s) = ⊥
MergeHasNoMore left (Forks cs) = ChildrenHaveNoMore left cs
MergeHasNoMore left (Needs s calls) = ⊥
MergeHasNoMore left (Ends l) = (told_of l).left ≤ left

-- ---- the laws

abbrev pub AttemptsFall : Type 0
AttemptsFall = (e : Setting) (s : State) → IsPlaced s → StepFalls s.left (attempt (context_of e s) s)

abbrev pub RootsFall : Type 0
RootsFall = (e : Setting) (s : State) (calls : List Needed) → IsPlaced s → ChildrenHaveNoMore s.left (roots_of e s calls)

-- whatever the leaves of the recoveries are
abbrev pub MergesFall : Type 0
MergesFall = (c : Context) (s : State) (calls : List Needed) (results : List (List Leaf)) → IsPlaced s → MergeHasNoMore s.left (merged c s calls results)
