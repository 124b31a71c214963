-- The verdict on a condition of terms, and the input that a model names.
use Rattle.std.specs.Prelude.{ℕ, Bool, ◌&&◌, List}
use Rattle.std.specs.List.{list_any}
use Rattle.gates.specs.Bits.{input}
use Rattle.gates.specs.Clauses.{occurs, all_inputs, names_of, number_of, formula_of, order_of}
use Rattle.search.specs.Models.{assignment, IsAtMost}
use Rattle.search.specs.Verdict.{Verdict, verdict}
use Rattle.terms.specs.Tree.{Tree}
use Rattle.term_bits.specs.TermBits.{input_of}
use Rattle.term_bits.specs.Conditions.{condition_bits, bytes_of}

-- what a budget of conflicts gives over the clauses of the condition, by its input bits in their order
abbrev pub condition_verdict : List Tree → ℕ → Verdict
condition_verdict c budget = verdict (formula_of (condition_bits c)) (order_of (condition_bits c)) budget

-- the 64 bytes whose bits are the model's values of the input bits that occur, and 0 elsewhere
abbrev pub found_input : List Tree → List Bool → List ℕ
found_input c values =
    bytes_of (λ k. list_any (occurs k) (condition_bits c) && assignment values (number_of (names_of (condition_bits c)) (input k)))

-- the first input is at most the second: byte after byte, the most significant bit first, 0 before 1
abbrev pub IsAtMostInput : List ℕ → List ℕ → Type 0
IsAtMostInput a b = IsAtMost all_inputs (input_of a) (input_of b)
