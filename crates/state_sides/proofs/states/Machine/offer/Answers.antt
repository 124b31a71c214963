use Rattle.std.proofs.Common.{length}
use Rattle.state_sides.proofs.Asking.{have-one-bit}
use Rattle.state_sides.proofs.states.Machine.offer.Goals as goal

pub held_side-requires-after_bounds : goal.held_side-requires-after_bounds
held_side-requires-after_bounds g c κs within = have-one-bit (length c.args.state.kept) c.args.sides.now c.requires.truths
