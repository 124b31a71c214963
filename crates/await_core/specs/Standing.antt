-- What stands on a board.
use Rattle.std.specs.Prelude.{◌≡◌, ℕ, ◌+◌, List, [], ◌∷◌, slice_get, Option, None, Some}
use Rattle.await_core.specs.declared.record.Home.{Home}
use Rattle.await_core.specs.declared.record.Record.{Record}
use Rattle.await_core.specs.declared.record.Stage.{Stage}
use Rattle.await_core.specs.declared.record.Stage.TheVariants.{Open, Out, Refused, Forked, Waiting, Over}
use Rattle.await_core.specs.declared.record.Work.{Work}
use Rattle.await_core.specs.declared.record.Work.TheVariants.{Expand, Resume}
use Rattle.await_core.specs.declared.evaluation.Evaluation.{Evaluation}
use Rattle.await_core.specs.declared.expansion.Expansion.{Expansion}
use Rattle.await_core.specs.declared.expansion.Expansion.TheVariants.{Leaf, Fork, Await}
use Rattle.await_core.specs.Meaning.{Answers, Meaning}
use Rattle.await_core.specs.Evaluation.{Evaluates, EachEvaluates, Counts}
use Rattle.await_core.specs.Boards.{BoardState, works_of}

module _ {N L R : Type 0} (tree : Answers N L R) where
  -- the tree's answer for a work
  abbrev pub answer_for : Work N L R → Expansion N L R
  answer_for (Expand node) = tree.expansion node
  answer_for (Resume rest lists) = tree.resumption rest lists

  -- the nodes of an answer
  abbrev pub nodes_of : Expansion N L R → List N
  nodes_of (Leaf l) = []
  nodes_of (Fork nodes) = nodes
  nodes_of (Await nodes rest) = nodes

  -- the node is worth these leaves, in so many tasks
  abbrev pub IsWorthIn : N → List L → ℕ → Type 0
  IsWorthIn node leaves tasks = (further : ℕ) × (tasks ≡ 1 + further) × Evaluates tree (tree.expansion node) leaves further

  -- what was kept for a node is its worth
  abbrev pub IsKeptFor : N → Evaluation L → Type 0
  IsKeptFor node e = (tasks : ℕ) × Counts tree e.tasks tasks × IsWorthIn node e.leaves tasks

  abbrev pub SlotsStand : List N → List (Option (Evaluation L)) → Type 0
  SlotsStand [] [] = Unit {0}
  SlotsStand [] (slot ∷ slots) = ⊥
  SlotsStand (node ∷ nodes) [] = ⊥
  SlotsStand (node ∷ nodes) (None ∷ slots) = SlotsStand nodes slots
  SlotsStand (node ∷ nodes) (Some e ∷ slots) = IsKeptFor node e × SlotsStand nodes slots

  -- how far a work has come
  abbrev pub StageStands : Work N L R → Stage N L R → Type 0
  StageStands work (Open kept) = kept ≡ work
  StageStands work Out = Unit {0}
  StageStands work Refused = Unit {0}
  StageStands work (Forked slots) = (nodes : List N) × (answer_for work ≡ Fork nodes) × SlotsStand nodes slots
  StageStands work (Waiting slots rest) = (nodes : List N) × (answer_for work ≡ Await nodes rest) × SlotsStand nodes slots
  StageStands work Over = Unit {0}

  module _ (root : N) where
    -- the works that the evaluation of the root makes
    pub data Descends : Work N L R → Type 0 where
      origin : Descends (Expand root)
      child : {work : Work N L R} (place : ℕ) {node : N}
          → Descends work → slice_get (nodes_of (answer_for work)) place ≡ Some node → Descends (Expand node)
      resumed : {work : Work N L R} {nodes : List N} {rest : R} {lists : List (List L)} {tasks : ℕ}
          → Descends work → answer_for work ≡ Await nodes rest → EachEvaluates tree nodes lists tasks → Descends (Resume rest lists)

    -- the node at a home; without one it is the root
    abbrev pub IsHomeOf : List (Work N L R) → Option Home → N → Type 0
    IsHomeOf works None node = node ≡ root
    IsHomeOf works (Some home) node =
        (work : Work N L R) × (slice_get works home.ticket ≡ Some work) × (slice_get (nodes_of (answer_for work)) home.place ≡ Some node)

    -- a task of the evaluation, whose value is the worth of the node at its home
    pub record TaskStands (works : List (Work N L R)) (r : Record N L R) : Type 0 where
      pub descends : Descends r.work
      pub stage : StageStands r.work r.stage
      pub node : N
      pub home : IsHomeOf works r.home node
      pub done : ℕ
      pub counts : Counts tree r.before done
      pub promise : (leaves : List L) (tasks : ℕ) → Evaluates tree (answer_for r.work) leaves tasks → IsWorthIn node leaves (done + 1 + tasks)

    abbrev pub TasksStand : List (Work N L R) → List (Record N L R) → Type 0
    TasksStand works [] = Unit {0}
    TasksStand works (r ∷ rs) = TaskStands works r × TasksStand works rs

    -- the value of the root
    abbrev pub ValueStands : Option (Evaluation L) → Type 0
    ValueStands None = Unit {0}
    ValueStands (Some e) = IsKeptFor root e

    -- the records of the evaluation's tasks, the root's first
    pub record RecordsStand (records : List (Record N L R)) : Type 0 where
      pub tasks : TasksStand (works_of records) records
      pub first : slice_get (works_of records) 0 ≡ Some (Expand root)

    -- this is the worth of the node at the task's home
    abbrev pub HasWorth : List (Record N L R) → ℕ → Evaluation L → Type 0
    HasWorth records ticket e =
        (r : Record N L R) × (slice_get records ticket ≡ Some r) × ((node : N) × IsHomeOf (works_of records) r.home node × IsKeptFor node e)

    pub record Stands (b : BoardState N L R) : Type 0 where
      pub records : RecordsStand b.records
      pub value : ValueStands b.value

-- the board is that of an evaluation of a node of the tree
abbrev pub StandsFor : {N L R : Type 0} → Meaning N L R → BoardState N L R → Type 0
StandsFor {N} tree b = (root : N) × tree.IsNode root × Stands tree.answers root b

-- the worth of the board's root, with the number of its tasks as far as 64 bits hold it
abbrev pub IsRootWorth : {N L R : Type 0} → Answers N L R → BoardState N L R → List L → ℕ → Type 0
IsRootWorth {N} tree b leaves count =
    (root : N) → slice_get (works_of b.records) 0 ≡ Some (Expand root) → (tasks : ℕ) × Counts tree count tasks × IsWorthIn tree root leaves tasks

-- the node or the rest of the work is the tree's, and the rest takes the lists
abbrev pub IsOwnWork : {N L R : Type 0} → Meaning N L R → Work N L R → Type 0
IsOwnWork tree (Expand node) = tree.IsNode node
IsOwnWork tree (Resume rest lists) = tree.IsRest rest × tree.Takes rest lists
