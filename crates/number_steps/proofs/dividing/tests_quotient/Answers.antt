use Rattle.std.proofs.Common.{length}
use Rattle.number_steps.proofs.Fitted.{quotient-truth}
use Rattle.number_steps.proofs.dividing.tests_quotient.Goals as goal

pub must-requires-clause-budget : goal.must-requires-clause-budget
must-requires-clause-budget g c κs within = c.requires.budget

pub must-requires-clause-fitting : goal.must-requires-clause-fitting
must-requires-clause-fitting g c κs within = c.requires.fitting

pub must-requires-clause-fits : goal.must-requires-clause-fits
must-requires-clause-fits g c κs within = c.requires.fits

pub must-requires-clause-truth : goal.must-requires-clause-truth
must-requires-clause-truth g c κs within = quotient-truth (length c.args.state.kept) c.args.a.now c.args.b.now c.in_ok-holds.holds c.in_ok-holds.ensures.value c.requires.dividend c.requires.divisor
