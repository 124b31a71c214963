use Rattle.state_sides.specs.Views.{state_seen}
use Rattle.state_sides.proofs.Asking.{told-fits-of}
use Rattle.state_sides.proofs.telling.told.Goals as goal

pub told_with-requires : goal.told_with-requires
told_with-requires g c = told-fits-of (state_seen c.args.state.now) c.in_ok-kept.kept c.in_ok-condition.condition c.in_ok-kept.ensures c.in_ok-condition.ensures c.requires
