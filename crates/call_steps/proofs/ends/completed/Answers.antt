use Rattle.std.proofs.Common.{refl, length}
use Rattle.state_sides.specs.Views.{state_seen}
use Rattle.call_steps.proofs.Ending.{complete-fits}
use Rattle.call_steps.proofs.ends.completed.Goals as goal

pub same-status : goal.same-status
same-status g c = refl

pub new-requires : goal.new-requires
new-requires g c =
    complete-fits (length c.args.state.kept) (state_seen c.args.state) c.args.value c.in_ok-told.told c.in_ok-status.status c.in_ok-output.output
    c.in_ok-told.ensures c.in_ok-status.ensures.value c.in_ok-output.ensures c.requires.value c.requires.fits
