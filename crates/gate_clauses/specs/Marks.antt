-- Which places the conjuncts read, and where their input bits stand.
use Rattle.std.specs.Prelude.{◌≡◌, ◌<◌, ◌⊎◌, ◌-◌, ◌/◌, ◌%◌, ℕ, Bool, true, false, Option, Some, None, is_some, List, length, slice_index_or, slice_set, nat_lt, if◌then◌else◌}
use Rattle.std.specs.List.{list_any}
use Rattle.gates.specs.Bits.{Bit}
use Rattle.gates.specs.Clauses.{occurs}
use Rattle.nodes.specs.declared.table.Node.{Node}
use Rattle.nodes.specs.declared.table.Node.TheVariants.{Constant, Input, Not, And, Xor}
use Rattle.nodes.specs.Nodes.{bit_at}
use Rattle.nodes.specs.Names.{node_of}

abbrev pub is_marked : List Bool → ℕ → Bool
is_marked marks k = slice_index_or marks k false

-- the input bit occurs in a conjunct
abbrev pub occurs_in : List Bit → ℕ → Bool
occurs_in c j = list_any (occurs j) c

abbrev pub IsOperand : Node → ℕ → Type 0
IsOperand (Constant b) k = ⊥
IsOperand (Input j) k = ⊥
IsOperand (Not a) k = k ≡ a
IsOperand (And a b) k = (k ≡ a) ⊎ (k ≡ b)
IsOperand (Xor a b) k = (k ≡ a) ⊎ (k ≡ b)

-- the node's operands are marked, beside what was marked before
pub record MarksOperands (node : Node) (old new : List Bool) : Type 0 where
  pub sized : length new ≡ length old
  pub kept : (k : ℕ) → is_marked old k ≡ true → is_marked new k ≡ true
  pub added : (k : ℕ) → IsOperand node k → is_marked new k ≡ true
  pub alone : (k : ℕ) → is_marked new k ≡ true → (is_marked old k ≡ true) ⊎ IsOperand node k

-- a marked place that reads the input bit: below the bound, or the bit itself
pub record Reads (nodes : List Node) (marks : List Bool) (low j : ℕ) : Type 0 where
  pub place : ℕ
  pub within : place < length nodes
  pub marked : is_marked marks place ≡ true
  pub reads : ((place < low) × (occurs j (bit_at nodes place) ≡ true)) ⊎ (node_of nodes place ≡ Input j)

-- The places from `low` on have marked their operands: what a marked place reads the conjuncts read, and each input
-- bit that they read is read by a marked place.
pub record Marks (nodes : List Node) (c : List Bit) (low : ℕ) (marks : List Bool) : Type 0 where
  pub sized : length marks ≡ length nodes
  pub sound : (k : ℕ) → k < length nodes → is_marked marks k ≡ true → (j : ℕ) → occurs j (bit_at nodes k) ≡ true → occurs_in c j ≡ true
  pub complete : (j : ℕ) → occurs_in c j ≡ true → Reads nodes marks low j

-- the places of the marked input bits among the nodes below `high`
pub record ArePlaces (nodes : List Node) (marks : List Bool) (high : ℕ) (places : List (Option ℕ)) : Type 0 where
  pub sized : length places ≡ 512
  pub found : (j k : ℕ) → j < 512 → slice_index_or places j None ≡ Some k → (k < length nodes) × (is_marked marks k ≡ true) × (node_of nodes k ≡ Input j)
  pub all : (k j : ℕ) → k < high → is_marked marks k ≡ true → j < 512 → node_of nodes k ≡ Input j → is_some (slice_index_or places j None) ≡ true

-- an input bit as its byte and its place in the byte, the lowest bit having place 0
abbrev pub position : ℕ → ℕ × ℕ
position k = (k / 8, 7 - k % 8)

-- the place is noted where the node is an input bit of 64 bytes
abbrev pub Notes : Node → ℕ → List (Option ℕ) → List (Option ℕ) → Type 0
Notes (Input j) k old new = new ≡ (if nat_lt j 512 then slice_set old j (Some k) else old)
Notes _ k old new = new ≡ old
