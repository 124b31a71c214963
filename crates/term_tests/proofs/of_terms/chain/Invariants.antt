use Rattle.std.proofs.Common.{◌≡◌}
use Rattle.terms.specs.Tree.{width_of}
use Rattle.terms.specs.Value.{ReadsBelow}
use Rattle.term_tests.proofs.of_terms.chain.Given as goal

-- it reads the first byte alone, and has its width
abbrev pub invariant-loop : goal.invariant-loop
invariant-loop g l = ReadsBelow 2 l.x × (width_of l.x ≡ 8)
