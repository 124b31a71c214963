-- The bits of the input that a model names.
use Rattle.std.specs.Prelude.{ℕ, ◌≡◌, ◌<◌, Bool, false, ◌&&◌, List, map, slice_index_or}
use Rattle.std.specs.List.{list_any}
use Rattle.gates.specs.Bits.{input}
use Rattle.gates.specs.Clauses.{occurs, inputs_of, names_of, number_of, order_of}
use Rattle.gate_clauses.specs.Marks.{position}
use Rattle.search.specs.Models.{assignment}
use Rattle.terms.specs.Tree.{Tree}
use Rattle.term_bits.specs.Conditions.{condition_bits}

-- a bit of 64 bytes: its byte, and its place there
abbrev pub IsPlace : ℕ × ℕ → Type 0
IsPlace p = (p.0 < 64) × (p.1 < 8)

-- the variables of the input bits that occur in the condition, and which bits they are
pub record AreInputsOf (c : List Tree) (order : List ℕ) (bits : List (ℕ × ℕ)) : Type 0 where
  pub order_is : order ≡ order_of (condition_bits c)
  pub bits_are : bits ≡ map position (inputs_of (condition_bits c))

-- an input bit of the input that a model names: its variable's value where it occurs, and 0 elsewhere
abbrev pub found_bit : List Tree → List Bool → ℕ → Bool
found_bit c values k =
    list_any (occurs k) (condition_bits c) && assignment values (number_of (names_of (condition_bits c)) (input k))

-- the list has these bits
abbrev pub HasBits : List Tree → List Bool → List Bool → Type 0
HasBits c values set = (k : ℕ) → k < 512 → slice_index_or set k false ≡ found_bit c values k
