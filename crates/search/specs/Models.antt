-- What the answers of a search mean for all assignments.
use Rattle.std.specs.Prelude.{◌≡◌, ◌≢◌, ◌⊎◌, ℕ, Bool, true, false, List, [], ◌∷◌, ◌++◌, slice_index_or, All}
use Rattle.cnf.specs.declared.Lit.{Lit}
use Rattle.cnf.specs.Cnf.{Cnf, lists_of}
use Rattle.cnf.specs.Models.{Solves}
pub use Rattle.cnf.specs.Models.{IsFull, Determines}
use Rattle.search.specs.declared.Answer.{Answer}
use Rattle.search.specs.declared.Answer.TheVariants.{Model, Refuted, Spent}

-- the values of a list as an assignment
abbrev pub assignment : List Bool → ℕ → Bool
assignment vs v = slice_index_or vs v false

-- along the order the first assignment is at most the second, false before true
abbrev pub IsAtMost : List ℕ → (ℕ → Bool) → (ℕ → Bool) → Type 0
IsAtMost [] a b = Unit {0}
IsAtMost (v ∷ order) a b = ((a v ≡ false) × (b v ≡ true)) ⊎ ((a v ≡ b v) × IsAtMost order a b)

-- it solves the formula, and is the least along the order of all that do
pub record IsLeastModel (f : Cnf) (order : List ℕ) (vs : List Bool) : Type 0 where
  pub solves : Solves (assignment vs) f.clauses
  pub least : (w : ℕ → Bool) → Solves w f.clauses → IsAtMost order (assignment vs) w

-- what the values of an answer are
abbrev pub IfModel : Answer → (List Bool → Type 0) → Type 0
IfModel (Model vs) P = P vs.items
IfModel (Refuted log) P = Unit {0}
IfModel Spent P = Unit {0}

-- what the log of an answer is
abbrev pub IfRefuted : Answer → (List (List Lit) → Type 0) → Type 0
IfRefuted (Model vs) P = Unit {0}
IfRefuted (Refuted log) P = P (lists_of log.items)
IfRefuted Spent P = Unit {0}

-- the empty clause stands in the list once, as its last
pub record EndsEmpty (log : List (List Lit)) : Type 0 where
  pub before : List (List Lit)
  pub last : log ≡ before ++ [] ∷ []
  pub once : All (λ c. c ≢ []) before
