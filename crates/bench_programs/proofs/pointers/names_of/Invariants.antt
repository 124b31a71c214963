use Rattle.std.proofs.Common.{◌≡◌, replicate, []}
use Rattle.bench_programs.proofs.pointers.names_of.Given as goal

abbrev pub invariant-loop : goal.invariant-loop
invariant-loop l = l.names.items ≡ replicate l.counter []
