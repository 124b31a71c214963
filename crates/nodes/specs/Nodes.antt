-- The bit expressions that a table of nodes stands for.
use Rattle.std.specs.Prelude.{◌≡◌, ◌<◌, ℕ, false, List, [], ◌∷◌, ◌++◌, length, slice_index_or}
use Rattle.gates.specs.Bits.{Bit, constant, input, negation, conjunction, exclusive}
use Rattle.nodes.specs.declared.table.Node.{Node}
use Rattle.nodes.specs.declared.table.Node.TheVariants.{Constant, Input, Not, And, Xor}

-- the expression at a place
abbrev pub at : List Bit → ℕ → Bit
at done k = slice_index_or done k (constant false)

-- what a node is over the expressions before it
abbrev pub bit_of : List Bit → Node → Bit
bit_of done (Constant b) = constant b
bit_of done (Input k) = input k
bit_of done (Not a) = negation (at done a)
bit_of done (And a b) = conjunction (at done a) (at done b)
bit_of done (Xor a b) = exclusive (at done a) (at done b)

unfoldable pub bits_after : List Bit → List Node → List Bit
bits_after done [] = done
bits_after done (g ∷ nodes) = bits_after (done ++ bit_of done g ∷ []) nodes

-- one expression for each node
unfoldable pub bits_of : List Node → List Bit
bits_of nodes = bits_after [] nodes

-- the expression of a node
abbrev pub bit_at : List Node → ℕ → Bit
bit_at nodes k = at (bits_of nodes) k

-- the node's operands stand below the place
abbrev pub IsAbove : ℕ → Node → Type 0
IsAbove k (Constant b) = Unit {0}
IsAbove k (Input j) = Unit {0}
IsAbove k (Not a) = a < k
IsAbove k (And a b) = (a < k) × (b < k)
IsAbove k (Xor a b) = (a < k) × (b < k)

-- each node stands once, above its operands
pub record IsTable (nodes : List Node) : Type 0 where
  pub ordered : (k : ℕ) → k < length nodes → IsAbove k (slice_index_or nodes k (Constant false))
  pub once : (j k : ℕ) → j < length nodes → k < length nodes → slice_index_or nodes j (Constant false) ≡ slice_index_or nodes k (Constant false) → j ≡ k

-- the older nodes stay where they are
abbrev pub Grows : List Node → List Node → Type 0
Grows old new = (more : List Node) × (new ≡ old ++ more)
