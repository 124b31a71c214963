-- What a look at all clauses answers, and what it does to a partial assignment.
use Rattle.std.specs.Prelude.{◌≡◌, ◌⊎◌, ◌<◌, Bool, true, Option, List, All, Any, count_by, is_none}
use Rattle.cnf.specs.declared.Lit.{Lit}
use Rattle.cnf.specs.declared.Pass.{Pass}
use Rattle.cnf.specs.declared.Pass.TheVariants.{Conflict, Changed, Quiet}
use Rattle.cnf.specs.Forced.{Forced, Within, Conflicts}
use Rattle.cnf.specs.Literals.{Literals, holds_of}
use Rattle.cnf.specs.UnitRule.{NoneTrue, HasTwoOpen}

-- the unit rule has nothing to say of the clause
abbrev pub IsQuiet : Literals → List Lit → Type 0
IsQuiet S c = Any (λ m. S m ≡ true) c ⊎ (NoneTrue S c × HasTwoOpen S c)

-- the second assignment has the first one, and nothing that the first doesn't force
pub record Grows (F : List (List Lit)) (before after : List (Option Bool)) : Type 0 where
  pub given : Within (holds_of before) (holds_of after)
  pub forced_alone : (l : Lit) → holds_of after l ≡ true → Forced F (holds_of before) l

-- something was assigned
pub record Assigns (F : List (List Lit)) (before after : List (Option Bool)) : Type 0 where
  pub grows : Grows F before after
  pub fewer : count_by is_none after < count_by is_none before

-- nothing was assigned, since there is nothing to assign
pub record FindsNone (F : List (List Lit)) (before after : List (Option Bool)) : Type 0 where
  pub unchanged : after ≡ before
  pub quiet : All (IsQuiet (holds_of before)) F

abbrev pub IsPass : List (List Lit) → List (Option Bool) → List (Option Bool) → Pass → Type 0
IsPass F before after Conflict = Conflicts F (holds_of before)
IsPass F before after Changed = Assigns F before after
IsPass F before after Quiet = FindsNone F before after
