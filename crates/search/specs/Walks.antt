-- What a walk of the code says of the tree.
use Rattle.std.specs.Prelude.{◌≡◌, ℕ, true, Option, Some, None, Bool, List, ◌++◌, length}
use Rattle.std.proofs.Common.{Global}
use Rattle.std.specs.declared.vec.Vec.{Vec}
use Rattle.cnf.specs.declared.Lit.{Lit}
use Rattle.cnf.specs.Literals.{among, holds_of}
use Rattle.cnf.specs.Forced.{Forced, Within, Conflicts}
use Rattle.cnf.specs.Forced.{IsLeastClosed}
use Rattle.search.specs.Tree.{Tree, log_of}
use Rattle.search.specs.Verdict.{Walk, found, spent, left, leaves, walk}
use Rattle.search.specs.declared.Walked.{Walked}
use Rattle.search.specs.declared.Walked.TheVariants.{Found, Spent, Left}

-- the assignment has the decisions, and nothing that they don't force
pub record IsReached (F : List (List Lit)) (D : List Lit) (assigned : List (Option Bool)) : Type 0 where
  pub given : Within (among D) (holds_of assigned)
  pub forced_alone : (l : Lit) → holds_of assigned l ≡ true → Forced F (among D) l

-- nothing where the assignment conflicts, else the assignment that it forces
pub record ClosesTo (F : List (List Lit)) (before after : List (Option Bool)) : Type 0 where
  pub length_stays : length after ≡ length before
  pub no_conflict : Conflicts F (holds_of before) → ⊥
  pub least : IsLeastClosed F (holds_of before) (holds_of after)

abbrev pub IsClosure : List (List Lit) → List (Option Bool) → Option (Vec (Option Bool) Global) → Type 0
IsClosure F assigned None = Conflicts F (holds_of assigned)
IsClosure F assigned (Some closed) = ClosesTo F assigned closed.items

abbrev pub walk_of : Walked → Walk
walk_of (Found vs) = found vs.items
walk_of Spent = spent
walk_of (Left n) = left n

-- what is logged where the walk came past the tree
abbrev pub LogsWhere : Walked → Type 0 → Type 0
LogsWhere (Found vs) P = Unit {0}
LogsWhere Spent P = Unit {0}
LogsWhere (Left n) P = P

pub record IsWalkOf (t : Tree) (budget : ℕ) (before after : List (List Lit)) (w : Walked) : Type 0 where
  pub walked : walk_of w ≡ walk budget (leaves t)
  pub logged : LogsWhere w (after ≡ before ++ log_of t)
