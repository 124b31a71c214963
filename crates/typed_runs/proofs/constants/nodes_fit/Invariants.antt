use Rattle.std.specs.Prelude.{take, All}
use Rattle.std.specs.List.{AllByRecursion as Each}
use Rattle.flat_ir.specs.Whole.{operands_of}
use Rattle.typed_runs.specs.FittingRuns.{OperandFits}
use Rattle.typed_runs.proofs.constants.nodes_fit.Given as goal

abbrev pub invariant-loop-node : goal.invariant-loop-node
invariant-loop-node l = Each (λ n. All OperandFits (operands_of n)) (take l.node-index l.nodes)
