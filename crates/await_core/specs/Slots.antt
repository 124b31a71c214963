-- The lists of the nodes of an answer, as far as they have come.
use Rattle.std.specs.Prelude.{ℕ, zero, suc, ◌+◌, ◌-◌, ◌^◌, min, List, [], ◌∷◌, length, Option, None, Some}
use Rattle.await_core.specs.declared.evaluation.Evaluation.{Evaluation}

-- a number of tasks, as far as 64 bits hold it
abbrev pub capped : ℕ → ℕ
capped tasks = min tasks (2 ^ 64 - 1)

-- so many slots, and no list has come
abbrev pub no_lists : {L : Type 0} → ℕ → List (Option (Evaluation L))
no_lists zero = []
no_lists (suc count) = None ∷ no_lists count

module _ {L : Type 0} where
  -- all lists have come
  abbrev pub IsFull : List (Option (Evaluation L)) → Type 0
  IsFull [] = Unit {0}
  IsFull (None ∷ slots) = ⊥
  IsFull (Some e ∷ slots) = IsFull slots

  -- the lists that have come, in the order of the nodes
  abbrev pub lists_in : List (Option (Evaluation L)) → List (List L)
  lists_in [] = []
  lists_in (None ∷ slots) = lists_in slots
  lists_in (Some e ∷ slots) = e.leaves ∷ lists_in slots

  -- the number of the tasks that made them
  abbrev pub tasks_in : List (Option (Evaluation L)) → ℕ
  tasks_in [] = 0
  tasks_in (None ∷ slots) = tasks_in slots
  tasks_in (Some e ∷ slots) = e.tasks + tasks_in slots

  -- the number of leaves in them
  abbrev pub held_in : List (Option (Evaluation L)) → ℕ
  held_in [] = 0
  held_in (None ∷ slots) = held_in slots
  held_in (Some e ∷ slots) = length e.leaves + held_in slots

  -- the slots that these lists and numbers stand for; a list without its number hasn't come
  abbrev pub slots_view : List (List L) → List (Option ℕ) → List (Option (Evaluation L))
  slots_view [] tasks = []
  slots_view (list ∷ lists) [] = []
  slots_view (list ∷ lists) (None ∷ tasks) = None ∷ slots_view lists tasks
  slots_view (list ∷ lists) (Some n ∷ tasks) = Some (record { leaves = list; tasks = n }) ∷ slots_view lists tasks

-- how many have no number
abbrev pub empty_count : List (Option ℕ) → ℕ
empty_count [] = 0
empty_count (None ∷ tasks) = 1 + empty_count tasks
empty_count (Some n ∷ tasks) = empty_count tasks

-- the sum of the numbers
abbrev pub task_sum : List (Option ℕ) → ℕ
task_sum [] = 0
task_sum (None ∷ tasks) = task_sum tasks
task_sum (Some n ∷ tasks) = n + task_sum tasks
