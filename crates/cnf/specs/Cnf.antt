-- A formula as clauses see it: the number of its variables, and its clauses as lists.
use Rattle.std.specs.Prelude.{◌<◌, ℕ, List, map, All}
use Rattle.std.specs.declared.vec.Vec.{Vec}
use Rattle.std.proofs.Common.{Global}
use Rattle.cnf.specs.declared.Lit.{Lit}

pub record Cnf : Type 0 where
  pub vars : ℕ
  pub clauses : List (List Lit)

abbrev pub lists_of : List (Vec Lit Global) → List (List Lit)
lists_of clauses = map (λ c. c.items) clauses

-- each variable is below n
abbrev pub IsBelow : ℕ → List (List Lit) → Type 0
IsBelow n F = All (λ c. All (λ l. l.var < n) c) F
