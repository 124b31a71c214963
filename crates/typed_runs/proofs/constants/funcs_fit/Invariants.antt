use Rattle.std.specs.Prelude.{take, All}
use Rattle.std.specs.List.{AllByRecursion as Each}
use Rattle.flat_ir.specs.Whole.{operands_of}
use Rattle.typed_runs.specs.FittingRuns.{OperandFits}
use Rattle.typed_runs.proofs.constants.funcs_fit.Given as goal

abbrev pub invariant-loop-func : goal.invariant-loop-func
invariant-loop-func l = Each (λ f. All (λ n. All OperandFits (operands_of n)) f.nodes) (take l.func-index l.funcs)
