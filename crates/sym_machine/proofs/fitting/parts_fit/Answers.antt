use Rattle.std.specs.List.{AllByRecursion as Each}
use Rattle.std.proofs.Common.{arith, subst}
use Rattle.std.proofs.lemmas.List.{take_all}
use Rattle.state_laws.specs.Kept.{PartFits}
use Rattle.sym_machine.proofs.Walked.{parts-all}
use Rattle.sym_machine.proofs.fitting.parts_fit.Goals as goal

pub returns : goal.returns
returns c = parts-all c.args.parts.now (subst (Each PartFits) (take_all c.loop-part.part-index c.args.parts.now (omega (arith, c.loop-part-test.false))) c.loop-part.invariant)
