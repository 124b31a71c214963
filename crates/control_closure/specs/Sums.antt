-- What is kept of the nodes that are met first: enough to tell whether ways part.
use Rattle.std.specs.Prelude.{◌≡◌, ◌≢◌, ◌<◌, ◌-◌, ◌⊎◌, ◌==◌, not, ℕ, Bool, true, false, List, [], length, slice_index_or}
use Rattle.std.specs.List.{Contains}
use Rattle.control_closure.specs.declared.summing.Met.{Met}
use Rattle.control_closure.specs.declared.summing.Met.TheVariants.{Nothing, One, Several}
use Rattle.control_closure.specs.Met.{Meets}

-- two different numbers, one of each kind
pub record Apart (P Q : ℕ → Type 0) : Type 0 where
  pub one : ℕ
  pub other : ℕ
  pub first : P one
  pub second : Q other
  pub apart : one ≢ other

-- no number is so, the only one, or two are so
abbrev pub SumsUp : (ℕ → Type 0) → Met → Type 0
SumsUp P Nothing = (m : ℕ) → P m → ⊥
SumsUp P (One a) = P a × ((m : ℕ) → P m → m ≡ a)
SumsUp P Several = Apart P P

-- the summary with one number more
abbrev pub with_target : Met → ℕ → Met
with_target Nothing t = One t
with_target (One a) t = Several
with_target Several t = Several

-- what two summaries tell of two different numbers
abbrev pub apart : Met → Met → Bool
apart Nothing other = false
apart (One a) Nothing = false
apart (One a) (One b) = not (a == b)
apart (One a) Several = true
apart Several Nothing = false
apart Several (One b) = true
apart Several Several = true

-- the summary of a node
abbrev pub at_node : List Met → ℕ → Met
at_node mets n = slice_index_or mets n Nothing

-- the retained nodes below a bound that the node meets first
abbrev pub MeetsBelow : List (List ℕ) → (ℕ → Bool) → ℕ → ℕ → ℕ → Type 0
MeetsBelow g kept bound n m = Meets g kept n m × (m < bound)

-- one of the numbers is in the set
abbrev pub LeadsInto : List ℕ → (ℕ → Bool) → Type 0
LeadsInto numbers S = (k : ℕ) × Contains numbers k × (S k ≡ true)

-- the node is the target, or isn't retained and leads to one of the set
abbrev pub Holds : List (List ℕ) → (ℕ → Bool) → ℕ → (ℕ → Bool) → ℕ → Type 0
Holds g kept target S n = (n ≡ target) ⊎ ((kept n ≡ false) × LeadsInto (slice_index_or g n []) S)

-- what rule i gives: the rules take the last node first
abbrev pub Fires : List (List ℕ) → (ℕ → Bool) → ℕ → ℕ → (ℕ → Bool) → (ℕ → Bool) → Type 0
Fires g kept target i S T = Holds g kept target S (length g - 1 - i) → T (length g - 1 - i) ≡ true

-- the summaries are those of a graph's nodes
abbrev pub SumUp : List (List ℕ) → (ℕ → Bool) → List Met → Type 0
SumUp g kept mets = (n : ℕ) → SumsUp (Meets g kept n) (at_node mets n)

-- the two nodes differ, and different retained nodes are met first from them
abbrev pub PartsAt : List (List ℕ) → (ℕ → Bool) → ℕ → ℕ → Type 0
PartsAt g kept one other = (one ≢ other) × Apart (Meets g kept one) (Meets g kept other)

-- the summaries count the retained nodes below a bound
abbrev pub SumUpBelow : List (List ℕ) → (ℕ → Bool) → ℕ → List Met → Type 0
SumUpBelow g kept bound mets = (n : ℕ) → SumsUp (MeetsBelow g kept bound n) (at_node mets n)

-- so it is with the node and one of the row
pub record PartsIn (g : List (List ℕ)) (kept : ℕ → Bool) (row : List ℕ) (one : ℕ) : Type 0 where
  pub other : ℕ
  pub there : Contains row other
  pub parts : PartsAt g kept one other
