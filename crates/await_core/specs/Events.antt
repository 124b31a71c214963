-- What happens on a board.
use Rattle.std.specs.Prelude.{◌≡◌, ◌≢◌, ℕ, ◌+◌, ◌-◌, ◌<◌, List, [], ◌∷◌, ◌++◌, length, slice_get, Option, None, Some, IsNone, IsSome, Result, Ok, Err, ◌⊎◌}
use Rattle.std.specs.declared.alloc.AllocError.{AllocError}
use Rattle.await_core.specs.declared.board.Posted.{Posted}
use Rattle.await_core.specs.declared.board.Posted.TheVariants.{Kept, Stray}
use Rattle.await_core.specs.declared.board.Taken.{Taken}
use Rattle.await_core.specs.declared.board.Taken.TheVariants.{Task, Idle, Stopped, Finished}
use Rattle.await_core.specs.declared.record.Record.{Record}
use Rattle.await_core.specs.declared.record.Resumption.{Resumption}
use Rattle.await_core.specs.declared.record.Stage.{Stage}
use Rattle.await_core.specs.declared.record.Stage.TheVariants.{Open, Out, Refused, Forked, Waiting, Over}
use Rattle.await_core.specs.declared.record.Work.{Work}
use Rattle.await_core.specs.declared.record.Work.TheVariants.{Expand, Resume}
use Rattle.await_core.specs.declared.expansion.Expansion.{Expansion}
use Rattle.await_core.specs.declared.expansion.Expansion.TheVariants.{Leaf, Fork, Await}
use Rattle.await_core.specs.Meaning.{Answers}
use Rattle.await_core.specs.Slots.{no_lists, capped}
use Rattle.await_core.specs.Boards.{BoardState, works_of, set_stage, out_count, IsOutAt}
use Rattle.await_core.specs.Rising.{Rises}
use Rattle.await_core.specs.Standing.{answer_for}

-- the first ticket that was refused
abbrev pub first_refused : Option ℕ → ℕ → Option ℕ
first_refused None ticket = Some ticket
first_refused (Some first) ticket = Some first

module _ {N L R : Type 0} where
  -- the least open task was handed out
  abbrev pub handed_out : BoardState N L R → BoardState N L R
  handed_out b =
      record {
        records = set_stage b.records b.handed Out;
        handed = b.handed + 1;
        out = b.out + 1;
        refused = b.refused;
        value = b.value;
      }

  -- what a take answers, and the board after it
  abbrev pub TakesFrom : BoardState N L R → Taken N L R → BoardState N L R → Type 0
  TakesFrom old Finished new = IsSome old.value × (new ≡ old)
  TakesFrom old (Stopped ticket) new = IsNone old.value × (old.refused ≡ Some ticket) × (new ≡ old)
  TakesFrom old (Task ticket work) new =
      IsNone old.value × (old.refused ≡ None) × (ticket ≡ old.handed) × (slice_get (works_of old.records) ticket ≡ Some work) × (new ≡ handed_out old)
  TakesFrom old (Idle taken) new =
      IsNone old.value × (old.refused ≡ None) × (old.handed ≡ length old.records) × (taken ≡ out_count old.records) × (0 < taken) × (new ≡ old)

  -- the task was given up
  abbrev pub refused_at : BoardState N L R → ℕ → BoardState N L R
  refused_at b ticket =
      record {
        records = set_stage b.records ticket Refused;
        handed = b.handed;
        out = b.out - 1;
        refused = first_refused b.refused ticket;
        value = b.value;
      }

  abbrev pub RefusesAt : BoardState N L R → ℕ → Posted → BoardState N L R → Type 0
  RefusesAt old ticket Kept new = IsOutAt old.records ticket × (new ≡ refused_at old ticket)
  RefusesAt old ticket Stray new = (IsOutAt old.records ticket → ⊥) × (new ≡ old)

  -- the tasks of these nodes, whose homes are the places from this one on
  abbrev pub branches : ℕ → ℕ → List N → List (Record N L R)
  branches ticket place [] = []
  branches ticket place (node ∷ nodes) =
      record { work = Expand node; home = Some (record { ticket = ticket; place = place }); before = 0; stage = Open (Expand node) } ∷ branches ticket (place + 1) nodes

  -- the task waits for the lists of these nodes, which have tasks of their own, in their order
  abbrev pub branched : BoardState N L R → ℕ → List N → Stage N L R → BoardState N L R
  branched b ticket nodes stage =
      record {
        records = set_stage (b.records ++ branches ticket 0 nodes) ticket stage;
        handed = b.handed;
        out = b.out - 1;
        refused = b.refused;
        value = b.value;
      }

  -- the task of a rest whose lists are there; it stands in the place of the task that awaited them
  abbrev pub resumption_task : Record N L R → Resumption L R → Stage N L R → Record N L R
  resumption_task r made stage = record { work = Resume made.rest made.lists; home = r.home; before = capped (r.before + 1 + made.tasks); stage = stage }

  -- an await that is complete has a task with the next ticket: it is open, or refused where no second owner of its
  -- work could be made, which takes no memory
  abbrev pub Opens : List (Record N L R) → Option ℕ → Option (Resumption L R) → List (Record N L R) → Option ℕ → Type 0
  Opens rs refused None after first = (after ≡ rs) × (first ≡ refused)
  Opens rs refused (Some made) after first =
      (r : Record N L R) × (slice_get rs made.ticket ≡ Some r)
      × (((after ≡ rs ++ resumption_task r made (Open (Resume made.rest made.lists)) ∷ []) × (first ≡ refused))
      ⊎ ((after ≡ rs ++ resumption_task r made Refused ∷ []) × (first ≡ first_refused refused (length rs))))

  -- the leaf's task is over, its worth rises, and what that completes goes on
  pub record PostsLeaf (old : BoardState N L R) (ticket : ℕ) (leaf : L) (new : BoardState N L R) : Type 0 where
    pub task : Record N L R
    pub at : slice_get old.records ticket ≡ Some task
    pub records : List (Record N L R)
    pub made : Option (Resumption L R)
    pub rises : Rises (set_stage old.records ticket Over) old.value ticket (record { leaves = leaf ∷ []; tasks = capped (task.before + 1) }) records new.value made
    pub opens : Opens records old.refused made new.records new.refused
    pub handed : new.handed ≡ old.handed
    pub out : new.out ≡ old.out - 1

  -- the board after a kept post
  abbrev pub Posts : BoardState N L R → ℕ → Expansion N L R → BoardState N L R → Type 0
  Posts old ticket (Leaf leaf) new = PostsLeaf old ticket leaf new
  Posts old ticket (Fork nodes) new = new ≡ branched old ticket nodes (Forked (no_lists (length nodes)))
  Posts old ticket (Await nodes rest) new = new ≡ branched old ticket nodes (Waiting (no_lists (length nodes)) rest)

  -- what a post answers, and the board after it; without memory that is the board of a kept refusal
  abbrev pub PostsAt : BoardState N L R → ℕ → Expansion N L R → Result Posted AllocError → BoardState N L R → Type 0
  PostsAt old ticket made (Ok Kept) new = IsOutAt old.records ticket × Posts old ticket made new
  PostsAt old ticket made (Ok Stray) new = (IsOutAt old.records ticket → ⊥) × (new ≡ old)
  PostsAt old ticket made (Err error) new = IsOutAt old.records ticket × (new ≡ refused_at old ticket)

  -- the nodes of a fork or an await are there
  abbrev pub HasNodes : Expansion N L R → Type 0
  HasNodes (Leaf leaf) = Unit {0}
  HasNodes (Fork nodes) = nodes ≢ []
  HasNodes (Await nodes rest) = nodes ≢ []

  -- what was made is the tree's answer for the work of the ticket
  abbrev pub IsAnswer : Answers N L R → BoardState N L R → ℕ → Expansion N L R → Type 0
  IsAnswer tree b ticket made = (work : Work N L R) → slice_get (works_of b.records) ticket ≡ Some work → answer_for tree work ≡ made
