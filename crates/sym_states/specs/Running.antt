-- An exploration computed with a bound on its depth.
use Rattle.std.specs.Prelude.{ℕ, zero, suc, ◌+◌, List, [], ◌∷◌, Option, Some, None}
use Rattle.leaves.specs.Events.{Leaf}
use Rattle.sym_states.specs.Attempts.{attempt}
use Rattle.sym_states.specs.Exploring.{Setting, context_of, roots_of, first_state, all_of}
use Rattle.sym_states.specs.Merging.{merged}
use Rattle.sym_states.specs.States.{State, Child, Go, Stop, Step, Goes, Forks, Needs, Ends, Needed}

-- the leaves of each of some children, and the tasks
pub record Found : Type 0 where
  pub lists : List (List Leaf)
  pub tasks : ℕ

abbrev pub reach : ℕ → Setting → State → Option Step
reach zero e s = None
reach (suc n) e s = elim (attempt (context_of e s) s) [ Goes t ↦ reach n e t | Forks cs ↦ Some (Forks cs) | Needs t calls ↦ Some (Needs t calls) | Ends l ↦ Some (Ends l) ]

abbrev pub beside : List Leaf → ℕ → Option Found → Option Found
beside leaves tasks None = None
beside leaves tasks (Some more) = Some (record { lists = leaves ∷ more.lists; tasks = tasks + more.tasks })

abbrev pub joined : ℕ → Option Found → Option Found → Option Found
joined tasks None more = None
joined tasks (Some below) more = beside (all_of below.lists) (below.tasks + tasks) more

abbrev pub after_merge : (List Child → Option Found) → ℕ → Step → Option Found → Option Found
after_merge evaluate tasks (Forks children) more = joined tasks (evaluate children) more
after_merge evaluate tasks (Ends l) more = beside (l ∷ []) tasks more
after_merge evaluate tasks _ more = None

abbrev pub after_roots : (List Child → Option Found) → Setting → State → List Needed → Option Found → Option Found → Option Found
after_roots evaluate e t calls None more = None
after_roots evaluate e t calls (Some results) more = after_merge evaluate (results.tasks + 2) (merged (context_of e t) t calls results.lists) more

abbrev pub after_reach : (List Child → Option Found) → Setting → Option Step → Option Found → Option Found
after_reach evaluate e (Some (Ends l)) more = beside (l ∷ []) 1 more
after_reach evaluate e (Some (Forks children)) more = joined 1 (evaluate children) more
after_reach evaluate e (Some (Needs t calls)) more = after_roots evaluate e t calls (evaluate (roots_of e t calls)) more
after_reach evaluate e _ more = None

abbrev pub evaluate : ℕ → Setting → List Child → Option Found
evaluate zero e children = None
evaluate (suc n) e [] = Some (record { lists = []; tasks = 0 })
evaluate (suc n) e (Stop l ∷ more) = beside (l ∷ []) 1 (evaluate n e more)
evaluate (suc n) e (Go s ∷ more) = after_reach (evaluate n e) e (reach n e s) (evaluate n e more)

abbrev pub leaves_in : Option Found → List Leaf
leaves_in None = []
leaves_in (Some found) = all_of found.lists

abbrev pub explored : ℕ → Setting → List Leaf
explored n e = leaves_in (evaluate n e (Go (first_state e) ∷ []))
