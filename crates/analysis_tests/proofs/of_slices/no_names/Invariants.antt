use Rattle.std.proofs.Common.{◌≡◌, replicate, []}
use Rattle.analysis_tests.proofs.of_slices.no_names.Given as goal

abbrev pub invariant-loop : goal.invariant-loop
invariant-loop l = l.names.items ≡ replicate l.counter []
