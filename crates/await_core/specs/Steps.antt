-- One step of what rises.
use Rattle.std.specs.Prelude.{◌≡◌, ℕ, ◌+◌, ◌<◌, ◌≤◌, List, length, slice_get, slice_set, Option, None, Some, ◌⊎◌}
use Rattle.await_core.specs.declared.record.Home.{Home}
use Rattle.await_core.specs.declared.record.Record.{Record}
use Rattle.await_core.specs.declared.record.Resumption.{Resumption}
use Rattle.await_core.specs.declared.record.Stage.{Stage}
use Rattle.await_core.specs.declared.record.Stage.TheVariants.{Forked, Waiting}
use Rattle.await_core.specs.declared.settle.Arrived.{Arrived}
use Rattle.await_core.specs.declared.settle.Arrived.TheVariants.{Stays, Joined, Complete}
use Rattle.await_core.specs.declared.settle.Risen.{Risen}
use Rattle.await_core.specs.declared.settle.Risen.TheVariants.{Settled, Goes, Ready}
use Rattle.await_core.specs.declared.evaluation.Evaluation.{Evaluation}
use Rattle.await_core.specs.Meaning.{joined}
use Rattle.await_core.specs.Slots.{IsFull, lists_in, tasks_in, held_in, capped}
use Rattle.await_core.specs.Load.{LoadState, worth_of}
use Rattle.await_core.specs.Boards.{slots_of, HomesBelow, leaves_held}
use Rattle.await_core.specs.Rising.{with_slots, Rises}

module _ {N L R : Type 0} where
  -- what a load makes of the stage at its home
  abbrev pub Arrives : Stage N L R → ℕ → LoadState L → Arrived N L R → Type 0
  Arrives stage place load (Stays after) =
      ((slice_get (slots_of stage) place ≡ Some None → ⊥) × (after ≡ stage))
      ⊎ ((slice_get (slots_of stage) place ≡ Some None) × (IsFull (slice_set (slots_of stage) place (Some (worth_of load))) → ⊥)
      × (after ≡ with_slots stage (slice_set (slots_of stage) place (Some (worth_of load)))))
  Arrives stage place load (Joined all) =
      (slots : List (Option (Evaluation L))) × (stage ≡ Forked slots) × (slice_get slots place ≡ Some None) × IsFull (slice_set slots place (Some (worth_of load)))
      × (all.leaves ≡ joined (lists_in (slice_set slots place (Some (worth_of load)))))
      × (all.tasks ≡ capped (tasks_in (slice_set slots place (Some (worth_of load)))))
      × (all.room + held_in slots ≡ load.room)
  Arrives stage place load (Complete rest each) =
      (slots : List (Option (Evaluation L))) × (stage ≡ Waiting slots rest) × (slice_get slots place ≡ Some None) × IsFull (slice_set slots place (Some (worth_of load)))
      × (each.lists ≡ lists_in (slice_set slots place (Some (worth_of load))))
      × (each.tasks ≡ capped (tasks_in (slice_set slots place (Some (worth_of load)))))

  -- the task's worth completes its home
  pub record Completes (rs : List (Record N L R)) (ticket : ℕ) : Type 0 where
    pub task : Record N L R
    pub at : slice_get rs ticket ≡ Some task
    pub home : Home
    pub is_home : task.home ≡ Some home
    pub above : Record N L R
    pub there : slice_get rs home.ticket ≡ Some above
    pub empty : slice_get (slots_of above.stage) home.place ≡ Some None
    pub worth : Evaluation L
    pub full : IsFull (slice_set (slots_of above.stage) home.place (Some worth))

  -- where the task's worth completes its home there is room for all leaves on the board
  abbrev pub HasRoom : List (Record N L R) → ℕ → ℕ → Type 0
  HasRoom rs ticket room = Completes rs ticket → leaves_held rs ≤ room

  -- one step: what rises has settled, or goes on from the home, or made an await ready
  abbrev pub StepsTo : List (Record N L R) → Option (Evaluation L) → ℕ → LoadState L → Risen L R → List (Record N L R) → Option (Evaluation L) → Type 0
  StepsTo rs value ticket load Settled after last = Rises rs value ticket (worth_of load) after last None
  StepsTo rs value ticket load (Ready made) after last = Rises rs value ticket (worth_of load) after last (Some made)
  StepsTo rs value ticket load (Goes up next) after last =
      (last ≡ value) × (up < ticket) × (length after ≡ length rs) × HomesBelow 0 after × (leaves_held after ≤ next.room)
      × ((rs' : List (Record N L R)) (value' : Option (Evaluation L)) (made : Option (Resumption L R))
      → Rises after last up (worth_of next) rs' value' made → Rises rs value ticket (worth_of load) rs' value' made)
