use Rattle.std.specs.Prelude.{take}
use Rattle.std.specs.List.{AllByRecursion as Each}
use Rattle.state_laws.specs.Kept.{OperandFits}
use Rattle.sym_machine.proofs.fitting.operands_fit.Given as goal

abbrev pub invariant-loop-operand : goal.invariant-loop-operand
invariant-loop-operand l = Each OperandFits (take l.operand-index l.operands)
