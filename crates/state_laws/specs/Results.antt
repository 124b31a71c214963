-- Exploring has one result.
use Rattle.std.specs.Prelude.{◌≡◌, ℕ, List}
use Rattle.leaves.specs.Events.{Leaf}
use Rattle.sym_states.specs.Exploring.{Setting, Evaluates, Explores}
use Rattle.sym_states.specs.States.{Child}

-- children have one list of leaves each, and take one number of tasks
abbrev pub EvaluatesOneResult : Type 0
EvaluatesOneResult = (e : Setting) (children : List Child) (lists others : List (List Leaf)) (tasks count : ℕ)
    → Evaluates e children lists tasks → Evaluates e children others count → (lists ≡ others) × (tasks ≡ count)

-- and so has a setting
abbrev pub ExploresOneResult : Type 0
ExploresOneResult = (e : Setting) (leaves others : List Leaf) (tasks count : ℕ)
    → Explores e leaves tasks → Explores e others count → (leaves ≡ others) × (tasks ≡ count)
