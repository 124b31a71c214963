use Rattle.std.proofs.Common.{◌≡◌, replicate}
use Rattle.bench_programs.specs.Stepping.{stepping}
use Rattle.bench_programs.proofs.slicing.push_functions.Given as goal

abbrev pub invariant-loop : goal.invariant-loop
invariant-loop l = l.funcs.items ≡ replicate l.counter (stepping l.steps)
