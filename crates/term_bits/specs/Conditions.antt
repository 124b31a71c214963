-- A condition of terms, its bits, and the input that a model of its clauses names.
use Rattle.std.specs.Prelude.{◌≡◌, ℕ, Bool, List, map, flat_map}
use Rattle.std.specs.List.{range_with_len}
use Rattle.gates.specs.Bits.{Bit, input}
use Rattle.gates.specs.Clauses.{names_of, number_of}
use Rattle.rows.specs.Numbers.{read}
use Rattle.terms.specs.Tree.{Tree, IsTree, width_of}
use Rattle.term_bits.specs.TermBits.{bits_of, input_bits}

-- a term of one bit
pub record IsConjunct (t : Tree) : Type 0 where
  pub tree : IsTree t
  pub one_bit : width_of t ≡ 1

-- the bits of the conjuncts, one for each
abbrev pub condition_bits : List Tree → List Bit
condition_bits conjuncts = flat_map bits_of conjuncts

-- the 64 bytes with these bits
abbrev pub bytes_of : (ℕ → Bool) → List ℕ
bytes_of i = map (λ k. read i (input_bits k)) (range_with_len 0 64)

-- the bytes whose bits are the model's values of the input bits that occur in the condition
abbrev pub input_in : List Bit → (ℕ → Bool) → List ℕ
input_in c v = bytes_of (λ k. v (number_of (names_of c) (input k)))
