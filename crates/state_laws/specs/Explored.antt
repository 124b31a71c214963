-- The leaves of an exploration fit, and where no calls are skipped, none is of a skipped call.
use Rattle.std.specs.Prelude.{◌≡◌, ℕ, ◌≤◌, List, [], ◌∷◌, length}
use Rattle.terms.specs.Tree.{Tree}
use Rattle.leaves.specs.Events.{Leaf}
use Rattle.sym_states.specs.Exploring.{Setting, Explores}
use Rattle.sym_states.specs.Fitting.{GlobalsFit}
use Rattle.sym_states.specs.Verdicts.{Sat}
use Rattle.state_laws.specs.Kept.{ProgramFits, LeafFitsAt}
use Rattle.state_laws.specs.Skipless.{LeafHasNoCalls}

-- at most 64 bytes of input, a program that fits, and verdicts whose inputs have as many bytes as they are asked for
pub record IsFittingSetting (e : Setting) : Type 0 where
  pub most : e.inputs ≤ 64
  pub sizes : (condition : List Tree) (n : ℕ) (input : List ℕ) → n ≤ 64 → e.verdict condition n ≡ Sat input → length input ≡ n
  pub program : ProgramFits e.program
  pub globals : GlobalsFit e.program.globals

abbrev pub LeavesFitAt : ℕ → List Leaf → Type 0
LeavesFitAt n [] = Unit {0}
LeavesFitAt n (l ∷ ls) = LeafFitsAt n l × LeavesFitAt n ls

abbrev pub LeavesHaveNoCalls : List Leaf → Type 0
LeavesHaveNoCalls [] = Unit {0}
LeavesHaveNoCalls (l ∷ ls) = LeafHasNoCalls l × LeavesHaveNoCalls ls

-- each leaf fits at the setting's bytes of input
abbrev pub ExploredLeavesFit : Type 0
ExploredLeavesFit = (e : Setting) (leaves : List Leaf) (tasks : ℕ) → IsFittingSetting e → Explores e leaves tasks → LeavesFitAt e.inputs leaves

abbrev pub ExploredLeavesHaveNoCalls : Type 0
ExploredLeavesHaveNoCalls = (e : Setting) (leaves : List Leaf) (tasks : ℕ) → e.skips ≡ [] → Explores e leaves tasks → LeavesHaveNoCalls leaves
