-- The numbers of places, and the clauses over them.
use Rattle.std.specs.Prelude.{◌≡◌, ◌<◌, ℕ, Bool, true, false, List, length, slice_index_or}
use Rattle.cnf.specs.declared.Lit.{Lit}
use Rattle.cnf.specs.Literals.{negated}
use Rattle.gates.specs.Clauses.{number_of}
use Rattle.nodes.specs.declared.table.Node.{Node}
use Rattle.nodes.specs.Nodes.{bit_at}
use Rattle.nodes.specs.Names.{bits_at}

-- each name stands at its number
abbrev pub IsNumbered : List Node → List ℕ → Type 0
IsNumbered nodes names =
    (n : ℕ) → n < length names → number_of (bits_at nodes names) (bit_at nodes (slice_index_or names n 0)) ≡ n

-- the number of each place is that of its expression
pub record AreNumbers (nodes : List Node) (names numbers : List ℕ) : Type 0 where
  pub sized : length numbers ≡ length nodes
  pub right : (k : ℕ) → k < length nodes → slice_index_or numbers k 0 ≡ number_of (bits_at nodes names) (bit_at nodes k)

-- the literal, or its negation
abbrev pub signed : Bool → Lit → Lit
signed true l = l
signed false l = negated l
