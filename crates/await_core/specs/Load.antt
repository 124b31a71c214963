-- What a task is worth, on its way up.
use Rattle.std.specs.Prelude.{ℕ, List}
use Rattle.await_core.specs.declared.evaluation.Evaluation.{Evaluation}

-- leaves with the number of the tasks that made them, and room for so many more leaves
pub record LoadState (L : Type 0) : Type 0 where
  pub leaves : List L
  pub tasks : ℕ
  pub room : ℕ

abbrev pub worth_of : {L : Type 0} → LoadState L → Evaluation L
worth_of load = record { leaves = load.leaves; tasks = load.tasks }
