use Rattle.std.specs.List.{AllByRecursion as Each}
use Rattle.std.proofs.Common.{arith, subst}
use Rattle.std.proofs.lemmas.List.{take_all}
use Rattle.state_laws.specs.Kept.{OperandFits}
use Rattle.sym_machine.proofs.Walked.{operands-all}
use Rattle.sym_machine.proofs.fitting.operands_fit.Goals as goal

pub returns : goal.returns
returns c = operands-all c.args.operands.now (subst (Each OperandFits) (take_all c.loop-operand.operand-index c.args.operands.now (omega (arith, c.loop-operand-test.false))) c.loop-operand.invariant)
