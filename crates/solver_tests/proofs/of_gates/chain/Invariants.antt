use Rattle.std.proofs.Common.{◌<◌, length}
use Rattle.solver_tests.proofs.of_gates.chain.Given as goal

abbrev pub invariant-loop : goal.invariant-loop
invariant-loop l = (l.top < length l.table) × (l.side < length l.table)
