-- The names of a condition as places of a table.
use Rattle.std.specs.Prelude.{◌≡◌, ◌<◌, ◌⊎◌, ℕ, Bool, true, false, List, [], ◌∷◌, ◌++◌, length, map, slice_index_or}
use Rattle.gates.specs.Bits.{Bit}
use Rattle.gates.specs.Clauses.{has, gates_of}
use Rattle.nodes.specs.declared.table.Node.{Node}
use Rattle.nodes.specs.declared.table.Node.TheVariants.{Constant, Input, Not, And, Xor}
use Rattle.nodes.specs.Nodes.{bit_at}

-- the expressions at the places
unfoldable pub bits_at : List Node → List ℕ → List Bit
bits_at nodes names = map (bit_at nodes) names

-- the places stand in the table
abbrev pub AreWithin : List Node → List ℕ → Type 0
AreWithin nodes ks = (j : ℕ) → j < length ks → slice_index_or ks j 0 < length nodes

abbrev pub node_of : List Node → ℕ → Node
node_of nodes k = slice_index_or nodes k (Constant false)

-- a place is done, or not
abbrev pub is_done : List Bool → ℕ → Bool
is_done done k = slice_index_or done k false

-- each gate of the expression has a name
abbrev pub IsCovered : List Bit → Bit → Type 0
IsCovered names e = (g : Bit) → has (gates_of e) g ≡ true → has names g ≡ true

abbrev pub is_gate : Node → Bool
is_gate (Constant b) = false
is_gate (Input k) = false
is_gate (Not a) = false
is_gate (And a b) = true
is_gate (Xor a b) = true

-- the names stand in the table, all gates of a place that is done have names, and a gate that isn't done has none
pub record IsNaming (nodes : List Node) (done : List Bool) (names : List ℕ) : Type 0 where
  pub sized : length done ≡ length nodes
  pub within : AreWithin nodes names
  pub covered : (k : ℕ) → k < length nodes → is_done done k ≡ true → IsCovered (bits_at nodes names) (bit_at nodes k)
  pub fresh : (k : ℕ) → k < length nodes → is_gate (node_of nodes k) ≡ true → is_done done k ≡ false → has (bits_at nodes names) (bit_at nodes k) ≡ false

-- all operands of the node are done
abbrev pub AreDone : List Bool → Node → Type 0
AreDone done (Constant b) = Unit {0}
AreDone done (Input k) = Unit {0}
AreDone done (Not a) = is_done done a ≡ true
AreDone done (And a b) = (is_done done a ≡ true) × (is_done done b ≡ true)
AreDone done (Xor a b) = (is_done done a ≡ true) × (is_done done b ≡ true)

-- the place is the node's first operand that isn't done
abbrev pub IsUndone : List Bool → Node → ℕ → Type 0
IsUndone done (Constant b) k = ⊥
IsUndone done (Input j) k = ⊥
IsUndone done (Not a) k = (k ≡ a) × (is_done done a ≡ false)
IsUndone done (And a b) k = ((k ≡ a) × (is_done done a ≡ false)) ⊎ ((k ≡ b) × (is_done done a ≡ true) × (is_done done b ≡ false))
IsUndone done (Xor a b) k = ((k ≡ a) × (is_done done a ≡ false)) ⊎ ((k ≡ b) × (is_done done a ≡ true) × (is_done done b ≡ false))

-- the places fall from below the bound down to the last one, and none is done
abbrev pub IsPath : ℕ → List Bool → List ℕ → ℕ → Type 0
IsPath bound done [] k = (k < bound) × (is_done done k ≡ false)
IsPath bound done (p ∷ above) k = (p < bound) × (is_done done p ≡ false) × IsPath p done above k

-- the gates that are still to be met where these places were left, the last of them first
unfoldable pub left_over : List Node → List Bit → List ℕ → List Bit
left_over nodes more [] = more
left_over nodes more (p ∷ above) = left_over nodes (gates_of (bit_at nodes p) ++ more) above
