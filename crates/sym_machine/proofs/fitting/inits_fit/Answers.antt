use Rattle.std.specs.List.{AllByRecursion as Each}
use Rattle.std.proofs.Common.{arith, subst}
use Rattle.std.proofs.lemmas.List.{take_all}
use Rattle.sym_states.specs.Fitting.{InitFits}
use Rattle.sym_machine.proofs.Walked.{inits-all}
use Rattle.sym_machine.proofs.fitting.inits_fit.Goals as goal

pub returns : goal.returns
returns c = inits-all c.args.bytes.now (subst (Each InitFits) (take_all c.loop-byte.byte-index c.args.bytes.now (omega (arith, c.loop-byte-test.false))) c.loop-byte.invariant)
