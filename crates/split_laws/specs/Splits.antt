-- What is given splits the inputs that meet the giver's condition, and keeps the least input that meets its own.
use Rattle.std.specs.Prelude.{◌≡◌, ℕ, ◌+◌, List, [], ◌∷◌, map, All, if◌then◌else◌}
use Rattle.std.specs.List.{AllByRecursion as Each}
use Rattle.terms.specs.Tree.{Tree}
use Rattle.terms.specs.Value.{are_met_by}
use Rattle.flat_ir.specs.Sound.{IsInput, Splits}
use Rattle.leaves.specs.Claims.{claim_of}
use Rattle.leaves.specs.Events.{Leaf, told_of}
use Rattle.sym_states.specs.Attempts.{attempt}
use Rattle.sym_states.specs.Exploring.{Setting, roots_of, Evaluates, Explores}
use Rattle.sym_states.specs.Merging.{merged}
use Rattle.sym_states.specs.States.{State, Context, Child, Go, Stop, Step, Goes, Forks, Needs, Ends, Needed}
use Rattle.state_laws.specs.Explored.{IsFittingSetting, LeavesFitAt}
use Rattle.state_laws.specs.Kept.{IsFitting, ProgramFits, StateFitsAt, ChildrenFit}
use Rattle.agreement.specs.Premises.{HasDistinctCases}
use Rattle.right_leaves.specs.Right.{IsLeast, KeepsLeast, AreRightVerdicts}
use Rattle.exploration_laws.specs.Begins.{condition_of, LeavesBegin}

-- 1 where the input meets the condition, else 0
abbrev pub times_met : List ℕ → List Tree → ℕ
times_met i condition = if are_met_by i condition then 1 else 0

-- how many of the children an input meets
abbrev pub met_among : List ℕ → List Child → ℕ
met_among i [] = 0
met_among i (c ∷ cs) = times_met i (condition_of c) + met_among i cs

-- how many of the leaves an input meets
abbrev pub met_leaves : List ℕ → List Leaf → ℕ
met_leaves i [] = 0
met_leaves i (l ∷ ls) = times_met i (told_of l).condition + met_leaves i ls

-- how many an input meets of what is given
abbrev pub met_by : List ℕ → Step → ℕ
met_by i (Goes s) = times_met i s.condition
met_by i (Forks cs) = met_among i cs
met_by i (Needs s calls) = times_met i s.condition
met_by i (Ends l) = times_met i (told_of l).condition

abbrev pub ChildKeepsLeast : ℕ → Child → Type 0
ChildKeepsLeast n (Go s) = IsLeast n s.condition s.kept
ChildKeepsLeast n (Stop l) = KeepsLeast n l

abbrev pub ChildrenKeepLeast : ℕ → List Child → Type 0
ChildrenKeepLeast n [] = Unit {0}
ChildrenKeepLeast n (c ∷ cs) = ChildKeepsLeast n c × ChildrenKeepLeast n cs

abbrev pub StepKeepsLeast : ℕ → Step → Type 0
StepKeepsLeast n (Goes s) = IsLeast n s.condition s.kept
StepKeepsLeast n (Forks cs) = ChildrenKeepLeast n cs
StepKeepsLeast n (Needs s calls) = IsLeast n s.condition s.kept
StepKeepsLeast n (Ends l) = KeepsLeast n l

-- an input of n bytes meets one of what is given where it meets the condition, and else none; what is kept is the least
pub record GivesSplit (n : ℕ) (condition : List Tree) (a : Step) : Type 0 where
  pub splits : (i : List ℕ) → IsInput n i → met_by i a ≡ times_met i condition
  pub least : StepKeepsLeast n a

-- leaves that split the inputs that meet a condition with which each begins
pub record LeavesSplit (n : ℕ) (condition : List Tree) (ls : List Leaf) : Type 0 where
  pub splits : (i : List ℕ) → IsInput n i → met_leaves i ls ≡ times_met i condition
  pub begin : LeavesBegin condition ls
  pub fit : LeavesFitAt n ls

-- the leaves below each child
abbrev pub ListsSplit : ℕ → List Child → List (List Leaf) → Type 0
ListsSplit n [] [] = Unit {0}
ListsSplit n [] (ls ∷ lists) = ⊥
ListsSplit n (c ∷ cs) [] = ⊥
ListsSplit n (c ∷ cs) (ls ∷ lists) = (LeavesSplit n (condition_of c) ls × Each (KeepsLeast n) ls) × ListsSplit n cs lists

-- ---- what is taken from outside

-- right verdicts, and a program that fits whose switches name no number twice
pub record IsRightContext (n : ℕ) (c : Context) : Type 0 where
  pub fitting : IsFitting c
  pub verdicts : AreRightVerdicts c.verdict n
  pub program : ProgramFits c.program
  pub distinct : HasDistinctCases c.program

pub record IsRightSetting (e : Setting) : Type 0 where
  pub fits : IsFittingSetting e
  pub verdicts : AreRightVerdicts e.verdict e.inputs
  pub distinct : HasDistinctCases e.program

-- ---- the laws

abbrev pub AttemptsSplit : Type 0
AttemptsSplit = (n : ℕ) (c : Context) (s : State) → IsRightContext n c → StateFitsAt n s → IsLeast n s.condition s.kept → GivesSplit n s.condition (attempt c s)

abbrev pub RootsKeepLeast : Type 0
RootsKeepLeast = (e : Setting) (n : ℕ) (s : State) (calls : List Needed) → IsLeast n s.condition s.kept → ChildrenKeepLeast n (roots_of e s calls)

-- whatever the lists are, where each splits the suspended state's inputs
abbrev pub MergesSplit : Type 0
MergesSplit = (n : ℕ) (c : Context) (s : State) (calls : List Needed) (results : List (List Leaf)) → IsRightContext n c → StateFitsAt n s → IsLeast n s.condition s.kept
    → Each (LeavesSplit n s.condition) results → GivesSplit n s.condition (merged c s calls results)

abbrev pub EvaluationsSplit : Type 0
EvaluationsSplit = (e : Setting) (children : List Child) (lists : List (List Leaf)) (tasks : ℕ) → IsRightSetting e → ChildrenFit e.inputs children → ChildrenKeepLeast e.inputs children
    → Evaluates e children lists tasks → ListsSplit e.inputs children lists

abbrev pub ExplorationsSplit : Type 0
ExplorationsSplit = (e : Setting) (leaves : List Leaf) (tasks : ℕ) → IsRightSetting e → Explores e leaves tasks
    → Splits e.inputs (map claim_of leaves) × All (KeepsLeast e.inputs) leaves

abbrev pub AttemptsForkSome : Type 0
AttemptsForkSome = (n : ℕ) (c : Context) (s : State) → IsRightContext n c → StateFitsAt n s → IsLeast n s.condition s.kept → attempt c s ≡ Forks [] → ⊥

abbrev pub MergesForkSome : Type 0
MergesForkSome = (n : ℕ) (c : Context) (s : State) (calls : List Needed) (results : List (List Leaf)) → IsRightContext n c → StateFitsAt n s → IsLeast n s.condition s.kept
    → Each (LeavesSplit n s.condition) results → merged c s calls results ≡ Forks [] → ⊥

-- a list has a leaf
abbrev pub HasSome : List Leaf → Type 0
HasSome [] = ⊥
HasSome (l ∷ ls) = Unit {0}

abbrev pub ListsHaveSome : Type 0
ListsHaveSome = (e : Setting) (children : List Child) (lists : List (List Leaf)) (tasks : ℕ) → IsRightSetting e → ChildrenFit e.inputs children → ChildrenKeepLeast e.inputs children
    → Evaluates e children lists tasks → Each HasSome lists
