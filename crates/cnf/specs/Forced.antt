-- The least set of literals that unit clauses force.
use Rattle.std.specs.Prelude.{◌≡◌, ◌⊎◌, ◌↔◌, Bool, true, ◌&&◌, ◌||◌, List, [], All, Contains}
use Rattle.std.specs.List.{list_all}
use Rattle.cnf.specs.declared.Lit.{Lit}
use Rattle.cnf.specs.Literals.{Literals, negated, same, among}

-- l stands in the clause, and its fellows are all negated in the set
abbrev pub is_forced_by : Literals → List Lit → Lit → Bool
is_forced_by S c l = among c l && list_all (λ m. same m l || S (negated m)) c

-- the set has the one literal of each clause whose fellows are all negated in it
abbrev pub IsClosed : List (List Lit) → Literals → Type 0
IsClosed F S = All (λ c. (l : Lit) → is_forced_by S c l ≡ true → S l ≡ true) F

abbrev pub Within : Literals → Literals → Type 0
Within A S = (l : Lit) → A l ≡ true → S l ≡ true

-- l is in the least closed set that has A: in each of them
abbrev pub Forced : List (List Lit) → Literals → Lit → Type 0
Forced F A l = (S : Literals) → IsClosed F S → Within A S → S l ≡ true

abbrev pub Conflicts : List (List Lit) → Literals → Type 0
Conflicts F A = Contains F [] ⊎ ((l : Lit) × Forced F A l × Forced F A (negated l))

-- the set is the least closed set that has A
abbrev pub IsLeastClosed : List (List Lit) → Literals → Literals → Type 0
IsLeastClosed F A S = (l : Lit) → (S l ≡ true) ↔ Forced F A l
