-- Each state reaches an answer, and each exploration has its leaves.
use Rattle.std.specs.Prelude.{ℕ, List}
use Rattle.leaves.specs.Events.{Leaf}
use Rattle.sym_states.specs.Exploring.{Setting, Reaches, Evaluates, Explores}
use Rattle.sym_states.specs.States.{State, Child, Step}
use Rattle.exploration_laws.specs.Falls.{ChildIsPlaced}
use Rattle.std.specs.List.{AllByRecursion as Each}

pub record HasAnswer (e : Setting) (s : State) : Type 0 where
  pub answer : Step
  pub reached : Reaches e s answer

pub record HasEvaluation (e : Setting) (children : List Child) : Type 0 where
  pub lists : List (List Leaf)
  pub tasks : ℕ
  pub evaluated : Evaluates e children lists tasks

pub record HasExploration (e : Setting) : Type 0 where
  pub leaves : List Leaf
  pub tasks : ℕ
  pub explored : Explores e leaves tasks

-- ---- the laws

abbrev pub AnswersAreReached : Type 0
AnswersAreReached = (e : Setting) (s : State) → HasAnswer e s

-- children that stand at nodes, where they are in no recovery, have their leaves
abbrev pub EvaluationsExist : Type 0
EvaluationsExist = (e : Setting) (children : List Child) → Each ChildIsPlaced children → HasEvaluation e children

abbrev pub ExplorationsExist : Type 0
ExplorationsExist = (e : Setting) → HasExploration e
