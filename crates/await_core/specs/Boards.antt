-- The board, as contracts see it.
use Rattle.std.specs.Prelude.{◌≡◌, ℕ, zero, suc, ◌+◌, ◌<◌, Bool, true, false, List, [], ◌∷◌, map, slice_get, Option, None, Some, option_map, if◌then◌else◌}
use Rattle.await_core.specs.declared.record.Home.{Home}
use Rattle.await_core.specs.declared.record.Record.{Record}
use Rattle.await_core.specs.declared.record.Stage.{Stage}
use Rattle.await_core.specs.declared.record.Stage.TheVariants.{Open, Out, Refused, Forked, Waiting, Over}
use Rattle.await_core.specs.declared.record.Work.{Work}
use Rattle.await_core.specs.declared.record.Work.TheVariants.{Expand}
use Rattle.await_core.specs.declared.evaluation.Evaluation.{Evaluation}
use Rattle.await_core.specs.Slots.{held_in}

-- the tasks by their tickets, the number of those that were handed out, how many of these are out, the first that was
-- refused, and the value of the root
pub record BoardState (N L R : Type 0) : Type 0 where
  pub records : List (Record N L R)
  pub handed : ℕ
  pub out : ℕ
  pub refused : Option ℕ
  pub value : Option (Evaluation L)

-- a task's home has a lower ticket
abbrev pub IsBelow : ℕ → Option Home → Type 0
IsBelow ticket None = Unit {0}
IsBelow ticket (Some home) = home.ticket < ticket

module _ {N L R : Type 0} where
  -- the works of all tickets
  abbrev pub works_of : List (Record N L R) → List (Work N L R)
  works_of records = map (λ r. r.work) records

  -- the stage of one ticket changed
  abbrev pub set_stage : List (Record N L R) → ℕ → Stage N L R → List (Record N L R)
  set_stage [] ticket stage = []
  set_stage (r ∷ rs) zero stage = record r { stage = stage } ∷ rs
  set_stage (r ∷ rs) (suc ticket) stage = r ∷ set_stage rs ticket stage

  -- the lists that a task waits for, as far as they have come
  abbrev pub slots_of : Stage N L R → List (Option (Evaluation L))
  slots_of (Forked slots) = slots
  slots_of (Waiting slots rest) = slots
  slots_of stage = []

  -- the work is kept for the one who takes the task
  abbrev pub IsOpen : Work N L R → Stage N L R → Type 0
  IsOpen work (Open kept) = kept ≡ work
  IsOpen work stage = ⊥

  -- the task was taken, and not given up
  abbrev pub IsBegun : Stage N L R → Type 0
  IsBegun (Open kept) = ⊥
  IsBegun Refused = ⊥
  IsBegun stage = Unit {0}

  -- the tasks below a ticket were taken, and those from it on are open
  abbrev pub AreInOrder : ℕ → List (Record N L R) → Type 0
  AreInOrder first [] = first ≡ 0
  AreInOrder zero (r ∷ rs) = IsOpen r.work r.stage × AreInOrder zero rs
  AreInOrder (suc first) (r ∷ rs) = IsBegun r.stage × AreInOrder first rs

  -- each task's home has a lower ticket
  abbrev pub HomesBelow : ℕ → List (Record N L R) → Type 0
  HomesBelow ticket [] = Unit {0}
  HomesBelow ticket (r ∷ rs) = IsBelow ticket r.home × HomesBelow (ticket + 1) rs

  abbrev pub is_out : Stage N L R → Bool
  is_out Out = true
  is_out stage = false

  -- how many tasks are out
  abbrev pub out_count : List (Record N L R) → ℕ
  out_count [] = 0
  out_count (r ∷ rs) = (if is_out r.stage then 1 else 0) + out_count rs

  -- how many leaves lie in slots
  abbrev pub leaves_held : List (Record N L R) → ℕ
  leaves_held [] = 0
  leaves_held (r ∷ rs) = held_in (slots_of r.stage) + leaves_held rs

  -- a task that isn't over has this home
  abbrev pub IsUnfinished : Stage N L R → Type 0
  IsUnfinished Over = ⊥
  IsUnfinished stage = Unit {0}

  pub record HasTask (records : List (Record N L R)) (home : Option Home) : Type 0 where
    pub ticket : ℕ
    pub task : Record N L R
    pub at : slice_get records ticket ≡ Some task
    pub is_home : task.home ≡ home
    pub unfinished : IsUnfinished task.stage

  -- the task waits for lists
  abbrev pub IsBranched : Stage N L R → Type 0
  IsBranched (Forked slots) = Unit {0}
  IsBranched (Waiting slots rest) = Unit {0}
  IsBranched stage = ⊥

  -- each task that waits has an empty slot, each empty slot has a task that fills it, and so has the root's value
  pub record IsAwaited (records : List (Record N L R)) (value : Option (Evaluation L)) : Type 0 where
    pub some : (ticket : ℕ) (r : Record N L R) → slice_get records ticket ≡ Some r → IsBranched r.stage → (place : ℕ) × (slice_get (slots_of r.stage) place ≡ Some None)
    pub slots : (ticket place : ℕ) (r : Record N L R) → slice_get records ticket ≡ Some r → slice_get (slots_of r.stage) place ≡ Some None → HasTask records (Some (record { ticket = ticket; place = place }))
    pub root : value ≡ None → HasTask records None

  pub record IsSound (records : List (Record N L R)) (handed out : ℕ) (refused : Option ℕ) (value : Option (Evaluation L)) : Type 0 where
    pub order : refused ≡ None → AreInOrder handed records
    pub homes : HomesBelow 0 records
    pub outs : out ≡ out_count records
    pub awaited : IsAwaited records value

  -- the board with the root's task alone
  abbrev pub first_task : N → Record N L R
  first_task root = record { work = Expand root; home = None; before = 0; stage = Open (Expand root) }

  abbrev pub started : N → BoardState N L R
  started root = record { records = first_task root ∷ []; handed = 0; out = 0; refused = None; value = None }

  abbrev pub stage_at : List (Record N L R) → ℕ → Option (Stage N L R)
  stage_at records ticket = option_map (λ r. r.stage) (slice_get records ticket)

  -- the task was taken, and neither posted nor refused
  abbrev pub IsOutAt : List (Record N L R) → ℕ → Type 0
  IsOutAt records ticket = stage_at records ticket ≡ Some Out
