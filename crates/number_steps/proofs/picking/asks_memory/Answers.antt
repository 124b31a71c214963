use Rattle.std.proofs.Common.{length, refl}
use Rattle.state_sides.specs.Views.{state_seen}
use Rattle.number_steps.proofs.Fitted.{small-truth}
use Rattle.number_steps.proofs.picking.asks_memory.Goals as goal

pub is_small-requires : goal.is_small-requires
is_small-requires g c = c.in_ok-size.ensures.width

pub test-requires-clause-budget : goal.test-requires-clause-budget
test-requires-clause-budget g c κs within = c.requires.budget

pub test-requires-clause-fits : goal.test-requires-clause-fits
test-requires-clause-fits g c κs within = c.requires.fits.fits

pub test-requires-clause-truth : goal.test-requires-clause-truth
test-requires-clause-truth g c κs within = small-truth (length c.args.state.kept) (state_seen c.args.state) c.args.size.now c.in_ok-asked.asked c.in_ok-size.size c.in_ok-small.small c.in_ok-asked.ensures c.in_ok-size.ensures.value c.in_ok-small.ensures.value c.requires.fits c.requires.size

pub same-size : goal.same-size
same-size g c = refl

pub mallocs-requires-after_bounds : goal.mallocs-requires-after_bounds
mallocs-requires-after_bounds g c κs within = c.in_ok-size.ensures.width
