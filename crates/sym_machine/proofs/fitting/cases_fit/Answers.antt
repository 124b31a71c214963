use Rattle.std.specs.List.{AllByRecursion as Each}
use Rattle.std.proofs.Common.{arith, subst}
use Rattle.std.proofs.lemmas.List.{take_all}
use Rattle.bitnum.specs.Number.{IsNumber}
use Rattle.sym_machine.proofs.Walked.{cases-all}
use Rattle.sym_machine.proofs.fitting.cases_fit.Goals as goal

pub returns : goal.returns
returns c = cases-all c.args.cases.now (subst (Each (λ k. IsNumber k.number)) (take_all c.loop-case.case-index c.args.cases.now (omega (arith, c.loop-case-test.false))) c.loop-case.invariant)
