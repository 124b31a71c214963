use Rattle.std.proofs.Common.{length}
use Rattle.state_sides.specs.Views.{state_seen}
use Rattle.call_steps.proofs.Ending.{returned-fits}
use Rattle.call_steps.proofs.returning.call_returns.Goals as goal

pub ends_frame-requires-clause-value : goal.ends_frame-requires-clause-value
ends_frame-requires-clause-value g c κs within =
    returned-fits (length c.args.state.kept) (state_seen c.args.state) c.args.value.now c.in_ok-value.value c.in_ok-value.ensures c.requires.operand c.requires.fits
