use Rattle.std.specs.Prelude.{take, All}
use Rattle.std.specs.List.{AllByRecursion as Each}
use Rattle.flat_ir.specs.Whole.{operands_of_part}
use Rattle.typed_runs.specs.FittingRuns.{OperandFits}
use Rattle.typed_runs.proofs.constants.parts_fit.Given as goal

abbrev pub invariant-loop-part : goal.invariant-loop-part
invariant-loop-part l = Each (λ p. All OperandFits (operands_of_part p)) (take l.part-index l.parts)
