use Rattle.std.proofs.Common.{length}
use Rattle.number_steps.proofs.Fitted.{truth-truth}
use Rattle.number_steps.proofs.picking.selects_side.Goals as goal

pub test-requires-clause-budget : goal.test-requires-clause-budget
test-requires-clause-budget g c κs within = c.requires.budget

pub test-requires-clause-fits : goal.test-requires-clause-fits
test-requires-clause-fits g c κs within = c.requires.fits.fits

pub test-requires-clause-truth : goal.test-requires-clause-truth
test-requires-clause-truth g c κs within = truth-truth (length c.args.state.kept) c.args.condition.now c.in_ok-truth.truth c.in_ok-truth.ensures.value c.requires.condition
