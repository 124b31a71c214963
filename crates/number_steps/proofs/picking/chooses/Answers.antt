use Rattle.std.proofs.Common.{length}
use Rattle.state_sides.specs.Views.{state_seen}
use Rattle.number_steps.proofs.Fitted.{number-term}
use Rattle.number_steps.proofs.picking.chooses.Goals as goal

pub selects-requires-clause-budget : goal.selects-requires-clause-budget
selects-requires-clause-budget g c κs within = c.requires.budget

pub selects-requires-clause-fits : goal.selects-requires-clause-fits
selects-requires-clause-fits g c κs within = c.requires.fits

pub selects-requires-clause-condition : goal.selects-requires-clause-condition
selects-requires-clause-condition g c κs within = number-term (length c.args.state.kept) (state_seen c.args.state) c.args.condition.now c.in_ok-holds.holds c.in_ok-holds.ensures c.requires.fits c.requires.condition
