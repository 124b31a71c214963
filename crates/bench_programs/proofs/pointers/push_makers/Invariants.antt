use Rattle.std.proofs.Common.{◌≡◌}
use Rattle.bench_programs.specs.Choosing.{makers}
use Rattle.bench_programs.proofs.pointers.push_makers.Given as goal

abbrev pub invariant-loop-k : goal.invariant-loop-k
invariant-loop-k l = l.nodes.items ≡ makers l.k
