-- The rows of terms in a table, and those that a walk remembers.
use Rattle.std.specs.Prelude.{◌≡◌, ℕ, List}
use Rattle.std.specs.declared.vec.Vec.{Vec}
use Rattle.std.proofs.Common.{Global}
use Rattle.nodes.specs.declared.table.Node.{Node}
use Rattle.nodes.specs.Names.{bits_at, AreWithin}
use Rattle.terms.specs.Tree.{Tree}
use Rattle.terms.specs.Memo.{Note, Remembers}
use Rattle.term_bits.specs.TermBits.{bits_of}

-- the places stand in the table and denote the bits of the term
pub record IsRow (nodes : List Node) (ks : List ℕ) (t : Tree) : Type 0 where
  pub within : AreWithin nodes ks
  pub bits : bits_at nodes ks ≡ bits_of t

-- each row that is remembered is its term's
abbrev pub AreRows : List Node → List (ℕ × Note (Vec ℕ Global)) → Type 0
AreRows nodes notes = (t : Tree) (row : Vec ℕ Global) → Remembers notes t row → IsRow nodes row.items t
