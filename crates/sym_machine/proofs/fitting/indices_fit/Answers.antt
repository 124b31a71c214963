use Rattle.std.specs.List.{AllByRecursion as Each}
use Rattle.std.proofs.Common.{arith, subst}
use Rattle.std.proofs.lemmas.List.{take_all}
use Rattle.flat_ir.specs.Whole.{operands_of_part}
use Rattle.state_laws.specs.Kept.{OperandsFit}
use Rattle.sym_machine.proofs.Walked.{indices-all}
use Rattle.sym_machine.proofs.fitting.indices_fit.Goals as goal

pub returns : goal.returns
returns c = indices-all c.args.parts.now (subst (Each (λ p. OperandsFit (operands_of_part p))) (take_all c.loop-part.part-index c.args.parts.now (omega (arith, c.loop-part-test.false))) c.loop-part.invariant)
