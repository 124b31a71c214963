use Rattle.std.proofs.Common.{◌≡◌}
use Rattle.sym_states.specs.Exploring.{zeros}
use Rattle.sym_machine.proofs.exploring.zeros.Given as goal

abbrev pub invariant-bytes : goal.invariant-bytes
invariant-bytes l = l.bytes ≡ zeros l.counter
