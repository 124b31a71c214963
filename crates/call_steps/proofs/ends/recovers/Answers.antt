use Rattle.std.proofs.Common.{length}
use Rattle.state_sides.specs.Views.{state_seen}
use Rattle.call_steps.proofs.Ending.{done-fits}
use Rattle.call_steps.proofs.ends.recovers.Goals as goal

pub new-requires : goal.new-requires
new-requires g c =
    done-fits (length c.args.state.kept) (state_seen c.args.state) c.args.target c.args.value c.if_result-result.result c.in_ok-told.told c.in_ok-entries.entries
    c.in_ok-told.ensures c.in_ok-entries.ensures c.if_result-result.ensures c.requires.value c.requires.fits
