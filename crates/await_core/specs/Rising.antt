-- What a task is worth goes to its home, and completes tasks there and above.
use Rattle.std.specs.Prelude.{◌≡◌, ℕ, ◌+◌, List, slice_get, slice_set, Option, None, Some}
use Rattle.await_core.specs.declared.record.Home.{Home}
use Rattle.await_core.specs.declared.record.Record.{Record}
use Rattle.await_core.specs.declared.record.Resumption.{Resumption}
use Rattle.await_core.specs.declared.record.Stage.{Stage}
use Rattle.await_core.specs.declared.record.Stage.TheVariants.{Open, Out, Refused, Forked, Waiting, Over}
use Rattle.await_core.specs.declared.evaluation.Evaluation.{Evaluation}
use Rattle.await_core.specs.Meaning.{joined}
use Rattle.await_core.specs.Slots.{IsFull, lists_in, tasks_in, capped}
use Rattle.await_core.specs.Boards.{slots_of, set_stage}

-- what the whole fork is worth: its lists joined, made by the tasks before it, itself, and those of the lists
abbrev pub joined_worth : {L : Type 0} → ℕ → List (Option (Evaluation L)) → Evaluation L
joined_worth before slots = record { leaves = joined (lists_in slots); tasks = capped (before + 1 + tasks_in slots) }

module _ {N L R : Type 0} where
  -- the stage with other slots
  abbrev pub with_slots : Stage N L R → List (Option (Evaluation L)) → Stage N L R
  with_slots (Forked old) slots = Forked slots
  with_slots (Waiting old rest) slots = Waiting slots rest
  with_slots (Open kept) slots = Open kept
  with_slots Out slots = Out
  with_slots Refused slots = Refused
  with_slots Over slots = Over

  -- the worth of a task rises from these records and this value of the root to those, and perhaps an await is complete:
  -- that of the root is the value;
  -- where no slot waits for it it is dropped;
  -- it fills its slot;
  -- the last of a fork makes the fork's worth, which rises in its turn;
  -- the last of an await makes the resumption
  pub data Rises : List (Record N L R) → Option (Evaluation L) → ℕ → Evaluation L → List (Record N L R) → Option (Evaluation L) → Option (Resumption L R) → Type 0 where
    at_root : {rs : List (Record N L R)} {value : Option (Evaluation L)} {ticket : ℕ} {worth : Evaluation L} {r : Record N L R}
        → slice_get rs ticket ≡ Some r → r.home ≡ None → Rises rs value ticket worth rs (Some worth) None
    astray : {rs : List (Record N L R)} {value : Option (Evaluation L)} {ticket : ℕ} {worth : Evaluation L} {r q : Record N L R} {home : Home}
        → slice_get rs ticket ≡ Some r → r.home ≡ Some home → slice_get rs home.ticket ≡ Some q
        → (slice_get (slots_of q.stage) home.place ≡ Some None → ⊥) → Rises rs value ticket worth rs value None
    filled : {rs : List (Record N L R)} {value : Option (Evaluation L)} {ticket : ℕ} {worth : Evaluation L} {r q : Record N L R} {home : Home}
        → slice_get rs ticket ≡ Some r → r.home ≡ Some home → slice_get rs home.ticket ≡ Some q
        → slice_get (slots_of q.stage) home.place ≡ Some None → (IsFull (slice_set (slots_of q.stage) home.place (Some worth)) → ⊥)
        → Rises rs value ticket worth (set_stage rs home.ticket (with_slots q.stage (slice_set (slots_of q.stage) home.place (Some worth)))) value None
    joins : {rs after : List (Record N L R)} {value last : Option (Evaluation L)} {ticket : ℕ} {worth : Evaluation L} {r q : Record N L R} {home : Home}
        {slots : List (Option (Evaluation L))} {made : Option (Resumption L R)}
        → slice_get rs ticket ≡ Some r → r.home ≡ Some home → slice_get rs home.ticket ≡ Some q → q.stage ≡ Forked slots
        → slice_get slots home.place ≡ Some None → IsFull (slice_set slots home.place (Some worth))
        → Rises (set_stage rs home.ticket Over) value home.ticket (joined_worth q.before (slice_set slots home.place (Some worth))) after last made
        → Rises rs value ticket worth after last made
    resumes : {rs : List (Record N L R)} {value : Option (Evaluation L)} {ticket : ℕ} {worth : Evaluation L} {r q : Record N L R} {home : Home}
        {slots : List (Option (Evaluation L))} {rest : R}
        → slice_get rs ticket ≡ Some r → r.home ≡ Some home → slice_get rs home.ticket ≡ Some q → q.stage ≡ Waiting slots rest
        → slice_get slots home.place ≡ Some None → IsFull (slice_set slots home.place (Some worth))
        → Rises rs value ticket worth (set_stage rs home.ticket Over) value
        (Some (record { ticket = home.ticket; rest = rest; lists = lists_in (slice_set slots home.place (Some worth)); tasks = capped (tasks_in (slice_set slots home.place (Some worth))) }))
