-- What stands on a board stands over every list of events.
use Rattle.std.proofs.Common.{ℕ, Ok, Err}
use Rattle.std.specs.Prelude.{Result}
use Rattle.std.specs.declared.alloc.AllocError.{AllocError}
use Rattle.await_core.specs.declared.board.Posted.{Posted}
use Rattle.await_core.specs.declared.board.Posted.TheVariants.{Kept, Stray}
use Rattle.await_core.specs.declared.board.Taken.{Taken}
use Rattle.await_core.specs.declared.board.Taken.TheVariants.{Task, Idle, Stopped, Finished}
use Rattle.await_core.specs.declared.expansion.Expansion.{Expansion}
use Rattle.await_core.specs.Meaning.{Answers}
use Rattle.await_core.specs.Boards.{BoardState}
use Rattle.await_core.specs.Standing.{Stands}
use Rattle.await_core.specs.Events.{TakesFrom, RefusesAt, PostsAt, IsAnswer}
use Rattle.await_core.specs.Finishing.{Reaches, begins, takes, posts, refuses}
use Rattle.await_core.proofs.OnStanding.{stands_started}
use Rattle.await_core.proofs.OnEvents.{stands_handed, stands_refused, stands_posted}

module _ {N L R : Type 0} (tree : Answers N L R) (root : N) where
  take_stands : (old new : BoardState N L R) (taken : Taken N L R) → Stands tree root old → TakesFrom old taken new → Stands tree root new
  take_stands old new Finished s t = rw t.1 s
  take_stands old new (Stopped ticket) s t = rw t.2 s
  take_stands old new (Task ticket work) s t = rw t.4 (stands_handed tree root old s)
  take_stands old new (Idle taken) s t = rw t.5 s

  post_stands : (old new : BoardState N L R) (t : ℕ) (made : Expansion N L R) (result : Result Posted AllocError) → Stands tree root old → IsAnswer tree old t made → PostsAt old t made result new → Stands tree root new
  post_stands old new t made (Ok Kept) s a p = stands_posted tree root old new t made s p.0 a p.1
  post_stands old new t made (Ok Stray) s a p = rw p.1 s
  post_stands old new t made (Err e) s a p = rw p.1 (stands_refused tree root old t s)

  refuse_stands : (old new : BoardState N L R) (t : ℕ) (posted : Posted) → Stands tree root old → RefusesAt old t posted new → Stands tree root new
  refuse_stands old new t Kept s p = rw p.1 (stands_refused tree root old t s)
  refuse_stands old new t Stray s p = rw p.1 s

  pub reached_stands : {b : BoardState N L R} → Reaches tree root b → Stands tree root b
  reached_stands begins = stands_started tree root
  reached_stands (takes {old = old} {new = new} taken r t) = take_stands old new taken (reached_stands r) t
  reached_stands (posts {old = old} {new = new} t made result r a p) = post_stands old new t made result (reached_stands r) a p
  reached_stands (refuses {old = old} {new = new} t posted r p) = refuse_stands old new t posted (reached_stands r) p
