use Rattle.std.proofs.Common.{◌≡◌}
use Rattle.bench_programs.specs.Stepping.{calls}
use Rattle.bench_programs.proofs.slicing.push_calls.Given as goal

abbrev pub invariant-loop-k : goal.invariant-loop-k
invariant-loop-k l = l.nodes.items ≡ calls l.k
