use Rattle.std.specs.List.{AllByRecursion as Each}
use Rattle.std.proofs.Common.{arith, subst}
use Rattle.std.proofs.lemmas.List.{take_all}
use Rattle.state_laws.specs.Kept.{OperandFits}
use Rattle.sym_machine.proofs.Walked.{sets-all}
use Rattle.sym_machine.proofs.fitting.sets_fit.Goals as goal

pub returns : goal.returns
returns c = sets-all c.args.sets.now (subst (Each (λ s. OperandFits s.value)) (take_all c.loop-entry.entry-index c.args.sets.now (omega (arith, c.loop-entry-test.false))) c.loop-entry.invariant)
