use Rattle.std.proofs.Common.{◌≡◌}
use Rattle.terms.specs.Tree.{width_of}
use Rattle.bench_programs.proofs.conditions.looked_up.Given as goal

abbrev pub invariant-loop-entry : goal.invariant-loop-entry
invariant-loop-entry g l = width_of l.found ≡ 8
