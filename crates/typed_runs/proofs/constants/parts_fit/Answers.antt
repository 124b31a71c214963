use Rattle.std.specs.Prelude.{All}
use Rattle.std.specs.List.{AllByRecursion as Each}
use Rattle.std.proofs.Common.{arith, subst}
use Rattle.std.proofs.lemmas.List.{take_all}
use Rattle.flat_ir.specs.Whole.{operands_of_part}
use Rattle.typed_runs.specs.FittingRuns.{OperandFits}
use Rattle.typed_runs.proofs.Walked.{parts_all}
use Rattle.typed_runs.proofs.constants.parts_fit.Goals as goal

pub returns : goal.returns
returns c =
    parts_all c.args.parts.now
    (subst (Each (λ p. All OperandFits (operands_of_part p))) (take_all c.loop-part.part-index c.args.parts.now (omega (arith, c.loop-part-test.false))) c.loop-part.invariant)
