use Rattle.std.proofs.Common.{◌≡◌}
use Rattle.bench_programs.specs.Stepping.{steps}
use Rattle.bench_programs.proofs.slicing.push_steps.Given as goal

abbrev pub invariant-loop-k : goal.invariant-loop-k
invariant-loop-k l = l.nodes.items ≡ steps l.k
