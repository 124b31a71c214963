use Rattle.std.specs.Prelude.{take}
use Rattle.std.specs.List.{AllByRecursion as Each}
use Rattle.typed_runs.specs.FittingRuns.{OperandFits}
use Rattle.typed_runs.proofs.constants.operands_fit.Given as goal

abbrev pub invariant-loop-operand : goal.invariant-loop-operand
invariant-loop-operand l = Each OperandFits (take l.operand-index l.operands)
