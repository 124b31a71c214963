-- What is explored of a program where no call is skipped.
use Rattle.std.specs.Prelude.{ℕ, List, [], ◌∷◌}
use Rattle.flat_ir.specs.declared.program.ProgramData.{ProgramData}
use Rattle.leaves.specs.declared.options.Options.{Options}
use Rattle.leaves.specs.Events.{Leaf}
use Rattle.sym_states.specs.Exploring.{Setting, Explores}
use Rattle.state_laws.specs.Kept.{LeafFitsAt}
use Rattle.state_laws.specs.Skipless.{LeafHasNoCalls}
use Rattle.state_sides.specs.Views.{verdict_by}

-- the program, with no call skipped, and the limits
abbrev pub setting_of : ProgramData → Options → Setting
setting_of p o = record {
  program = p;
  skips = [];
  mods = [];
  slice = λ f at. record { funcs = [] };
  inputs = o.input;
  steps = o.steps;
  shares = o.shares;
  verdict = verdict_by o.leaves;
}

-- these are the leaves of the program, by some number of tasks
abbrev pub AreLeaves : ProgramData → Options → List Leaf → Type 0
AreLeaves p o leaves = (tasks : ℕ) × Explores (setting_of p o) leaves tasks

-- the leaves are over the bytes of an input of n bytes
abbrev pub LeavesFitAt : ℕ → List Leaf → Type 0
LeavesFitAt n [] = Unit {0}
LeavesFitAt n (l ∷ ls) = LeafFitsAt n l × LeavesFitAt n ls

-- no leaf is of a skipped call
abbrev pub LeavesHaveNoCalls : List Leaf → Type 0
LeavesHaveNoCalls [] = Unit {0}
LeavesHaveNoCalls (l ∷ ls) = LeafHasNoCalls l × LeavesHaveNoCalls ls
