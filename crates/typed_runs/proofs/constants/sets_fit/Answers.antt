use Rattle.std.specs.List.{AllByRecursion as Each}
use Rattle.std.proofs.Common.{arith, subst}
use Rattle.std.proofs.lemmas.List.{take_all}
use Rattle.typed_runs.specs.FittingRuns.{OperandFits}
use Rattle.typed_runs.proofs.Walked.{sets_all}
use Rattle.typed_runs.proofs.constants.sets_fit.Goals as goal

pub returns : goal.returns
returns c =
    sets_all c.args.sets.now
    (subst (Each (λ s. OperandFits s.value)) (take_all c.loop-entry.entry-index c.args.sets.now (omega (arith, c.loop-entry-test.false))) c.loop-entry.invariant)
