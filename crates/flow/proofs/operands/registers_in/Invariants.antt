use Rattle.std.proofs.Common.{◌≡◌, take}
use Rattle.std.specs.List.{flat_map}
use Rattle.flow.specs.Flow.{read_by}
use Rattle.flow.proofs.operands.registers_in.Given as goal

abbrev pub invariant-loop-operand : goal.invariant-loop-operand
invariant-loop-operand l = l.registers.items ≡ flat_map read_by (take l.operand-index l.operands)
