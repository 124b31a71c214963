use Rattle.std.proofs.Common.{◌≡◌}
use Rattle.terms.specs.Tree.{width_of}
use Rattle.bench_programs.proofs.conditions.total.Given as goal

abbrev pub invariant-loop-k : goal.invariant-loop-k
invariant-loop-k g l = width_of l.all ≡ 8
