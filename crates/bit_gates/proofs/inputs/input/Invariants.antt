use Rattle.std.proofs.Common.{◌-◌}
use Rattle.nodes.proofs.GrowthLemmas.{Builds}
use Rattle.bit_gates.proofs.TermRows.{byte_bits}
use Rattle.bit_gates.proofs.inputs.input.Given as goal

abbrev pub invariant-loop-i : goal.invariant-loop-i
invariant-loop-i l = Builds l.fn.table l.table l.row.items (byte_bits l.byte (8 - l.i)) (byte_bits l.byte 8)
