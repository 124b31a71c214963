-- How a board is finished, and what boards an evaluation has.
use Rattle.std.specs.Prelude.{ℕ, ◌≤◌, List, Option, Result}
use Rattle.std.specs.declared.alloc.AllocError.{AllocError}
use Rattle.await_core.specs.declared.board.Posted.{Posted}
use Rattle.await_core.specs.declared.board.Taken.{Taken}
use Rattle.await_core.specs.declared.record.Record.{Record}
use Rattle.await_core.specs.declared.evaluation.Evaluation.{Evaluation}
use Rattle.await_core.specs.declared.expansion.Expansion.{Expansion}
use Rattle.await_core.specs.Meaning.{Answers, Meaning}
use Rattle.await_core.specs.Boards.{BoardState, HomesBelow, leaves_held, started}
use Rattle.await_core.specs.Standing.{RecordsStand, ValueStands, HasWorth}
use Rattle.await_core.specs.Events.{TakesFrom, RefusesAt, PostsAt, IsAnswer}

module _ {N L R : Type 0} (tree : Answers N L R) (root : N) where
  -- the records and the value of the root stand, and at most so many leaves lie in slots
  pub record Holds (rs : List (Record N L R)) (v : Option (Evaluation L)) (most : ℕ) : Type 0 where
    pub homes : HomesBelow 0 rs
    pub stands : RecordsStand tree root rs
    pub value : ValueStands tree root v
    pub held : leaves_held rs ≤ most

  -- the boards that takes, refusals and posts of the tree's answers lead to, each with the answer that it gives
  pub data Reaches : BoardState N L R → Type 0 where
    begins : Reaches (started root)
    takes : {old new : BoardState N L R} (taken : Taken N L R) → Reaches old → TakesFrom old taken new → Reaches new
    posts : {old new : BoardState N L R} (ticket : ℕ) (made : Expansion N L R) (result : Result Posted AllocError)
        → Reaches old → IsAnswer tree old ticket made → PostsAt old ticket made result new → Reaches new
    refuses : {old new : BoardState N L R} (ticket : ℕ) (posted : Posted) → Reaches old → RefusesAt old ticket posted new → Reaches new

module _ {N L R : Type 0} (tree : Meaning N L R) where
  -- for some node of the tree
  abbrev pub HoldsFor : List (Record N L R) → Option (Evaluation L) → ℕ → Type 0
  HoldsFor rs v most = (root : N) × tree.IsNode root × Holds tree.answers root rs v most

  -- for some node of the tree, and this is the worth of the node at the task's home
  abbrev pub BringsFor : List (Record N L R) → Option (Evaluation L) → ℕ → ℕ → Evaluation L → Type 0
  BringsFor rs v most ticket worth = (root : N) × tree.IsNode root × Holds tree.answers root rs v most × HasWorth tree.answers root rs ticket worth
