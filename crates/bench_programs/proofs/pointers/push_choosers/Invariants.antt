use Rattle.std.proofs.Common.{◌≡◌, ◌++◌}
use Rattle.bench_programs.specs.Choosing.{choosers}
use Rattle.bench_programs.proofs.pointers.push_choosers.Given as goal

abbrev pub invariant-loop-k : goal.invariant-loop-k
invariant-loop-k l = l.nodes.items ≡ l.fn.nodes.items ++ choosers l.sites l.k
