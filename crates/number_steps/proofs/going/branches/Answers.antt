use Rattle.std.proofs.Common.{length}
use Rattle.state_sides.specs.Views.{state_seen}
use Rattle.number_steps.proofs.Fitted.{branch-truths}
use Rattle.number_steps.proofs.going.branches.Goals as goal

pub choose_way-requires-clause-budget : goal.choose_way-requires-clause-budget
choose_way-requires-clause-budget g c κs within = c.requires.budget

pub choose_way-requires-clause-fits : goal.choose_way-requires-clause-fits
choose_way-requires-clause-fits g c κs within = c.requires.fits.fits

pub choose_way-requires-clause-truths : goal.choose_way-requires-clause-truths
choose_way-requires-clause-truths g c κs within = branch-truths (length c.args.state.kept) (state_seen c.args.state) c.args.condition.now c.in_ok-truth.truth c.in_ok-sides.sides c.as_slice.result.now c.in_ok-truth.ensures c.in_ok-sides.ensures.value c.as_slice.ensures c.requires.fits c.requires.condition
