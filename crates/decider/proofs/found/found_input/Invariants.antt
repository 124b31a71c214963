use Rattle.std.proofs.Common.{◌≡◌, List, map}
use Rattle.std.specs.List.{range_with_len}
use Rattle.rows.specs.Numbers.{read}
use Rattle.terms.specs.Tree.{Tree}
use Rattle.term_bits.specs.TermBits.{input_bits}
use Rattle.decider.specs.Found.{AreInputsOf, found_bit}
use Rattle.decider.proofs.found.found_input.Given as goal

abbrev pub invariant-loop-k : goal.invariant-loop-k
invariant-loop-k l =
    (c : List Tree) → AreInputsOf c l.blasted.order.items l.blasted.bits.items → l.input ≡ map (λ j. read (found_bit c l.values) (input_bits j)) (range_with_len 0 l.k)
