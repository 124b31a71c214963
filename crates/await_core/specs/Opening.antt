-- How tasks are added to a board.
use Rattle.std.specs.Prelude.{◌≡◌, ℕ, ◌+◌, List, [], ◌∷◌, ◌++◌, length, slice_get, Option, None, Some, ◌⊎◌}
use Rattle.await_core.specs.declared.record.Record.{Record}
use Rattle.await_core.specs.declared.record.Stage.{Stage}
use Rattle.await_core.specs.declared.record.Stage.TheVariants.{Open, Refused, Forked, Waiting}
use Rattle.await_core.specs.declared.record.Work.{Work}
use Rattle.await_core.specs.declared.evaluation.Evaluation.{Evaluation}
use Rattle.await_core.specs.Slots.{capped}
use Rattle.await_core.specs.Events.{first_refused}

module _ {N L R : Type 0} where
  -- the stage of a task whose answer has nodes, and a rest where it awaits them
  abbrev pub branch_stage : List (Option (Evaluation L)) → Option R → Stage N L R
  branch_stage slots None = Forked slots
  branch_stage slots (Some rest) = Waiting slots rest

  -- the task of a rest, in the place of the task that awaited
  abbrev pub task_in_place : Record N L R → Work N L R → ℕ → Stage N L R → Record N L R
  task_in_place r work tasks stage = record { work = work; home = r.home; before = capped (r.before + 1 + tasks); stage = stage }

  -- the task was added: it is open, or refused
  abbrev pub OpensWith : List (Record N L R) → Option ℕ → Work N L R → ℕ → ℕ → List (Record N L R) → Option ℕ → Type 0
  OpensWith rs refused work ticket tasks after first =
      (r : Record N L R) → slice_get rs ticket ≡ Some r
      → (((after ≡ rs ++ task_in_place r work tasks (Open work) ∷ []) × (first ≡ refused))
      ⊎ ((after ≡ rs ++ task_in_place r work tasks Refused ∷ []) × (first ≡ first_refused refused (length rs))))
