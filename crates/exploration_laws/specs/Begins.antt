-- The condition of what is given begins with the giver's conjuncts.
use Rattle.std.specs.Prelude.{◌≡◌, ℕ, List, [], ◌∷◌, ◌++◌}
use Rattle.std.specs.List.{AllByRecursion as Each}
use Rattle.terms.specs.Tree.{Tree}
use Rattle.leaves.specs.Events.{Leaf, told_of}
use Rattle.sym_states.specs.Attempts.{attempt}
use Rattle.sym_states.specs.Exploring.{Setting, roots_of, Evaluates}
use Rattle.sym_states.specs.Merging.{merged}
use Rattle.sym_states.specs.States.{State, Context, Child, Go, Stop, Step, Goes, Forks, Needs, Ends, Needed}

-- the conjuncts begin with these
pub record BeginsWith (first all : List Tree) : Type 0 where
  pub rest : List Tree
  pub is : all ≡ first ++ rest

abbrev pub condition_of : Child → List Tree
condition_of (Go s) = s.condition
condition_of (Stop l) = (told_of l).condition

abbrev pub ChildrenBegin : List Tree → List Child → Type 0
ChildrenBegin first [] = Unit {0}
ChildrenBegin first (c ∷ cs) = BeginsWith first (condition_of c) × ChildrenBegin first cs

abbrev pub StepBegins : List Tree → Step → Type 0
StepBegins first (Goes s) = BeginsWith first s.condition
StepBegins first (Forks cs) = ChildrenBegin first cs
StepBegins first (Needs s calls) = BeginsWith first s.condition
StepBegins first (Ends l) = BeginsWith first (told_of l).condition

-- the leaves of a list begin with these conjuncts
abbrev pub LeavesBegin : List Tree → List Leaf → Type 0
LeavesBegin first ls = Each (λ l. BeginsWith first (told_of l).condition) ls

-- the leaves below each child begin with the child's conjuncts
abbrev pub ListsBegin : List Child → List (List Leaf) → Type 0
ListsBegin [] [] = Unit {0}
ListsBegin [] (ls ∷ lists) = ⊥
ListsBegin (c ∷ cs) [] = ⊥
ListsBegin (c ∷ cs) (ls ∷ lists) = LeavesBegin (condition_of c) ls × ListsBegin cs lists

-- ---- the laws

abbrev pub AttemptsBegin : Type 0
AttemptsBegin = (c : Context) (s : State) → StepBegins s.condition (attempt c s)

-- the root of a recovery has the suspended state's condition
abbrev pub RootsBegin : Type 0
RootsBegin = (e : Setting) (s : State) (calls : List Needed) → Each (λ c. condition_of c ≡ s.condition) (roots_of e s calls)

-- whatever the leaves of the recoveries are
abbrev pub MergesBegin : Type 0
MergesBegin = (c : Context) (s : State) (calls : List Needed) (results : List (List Leaf)) → StepBegins s.condition (merged c s calls results)

abbrev pub EvaluationsBegin : Type 0
EvaluationsBegin = (e : Setting) (children : List Child) (lists : List (List Leaf)) (tasks : ℕ) → Evaluates e children lists tasks → ListsBegin children lists
