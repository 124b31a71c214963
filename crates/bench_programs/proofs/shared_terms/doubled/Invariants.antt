use Rattle.std.proofs.Common.{◌≡◌}
use Rattle.terms.specs.Tree.{width_of}
use Rattle.terms.specs.Value.{ReadsBelow}
use Rattle.bench_programs.proofs.shared_terms.doubled.Given as goal

-- it reads the first byte alone, and has its width
abbrev pub invariant-loop : goal.invariant-loop
invariant-loop g l = ReadsBelow 1 l.x × (width_of l.x ≡ 8)
