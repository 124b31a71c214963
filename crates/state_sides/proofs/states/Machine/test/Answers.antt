use Rattle.std.proofs.Common.{length}
use Rattle.state_sides.proofs.Asking.{sides-are}
use Rattle.state_sides.proofs.states.Machine.test.Goals as goal

pub offer-requires-clause-truths : goal.offer-requires-clause-truths
offer-requires-clause-truths g c κs within = sides-are (length c.args.state.kept) c.args.holds.now c.as_slice.result.now c.in_ok-sides.sides.items c.as_slice.ensures.value c.in_ok-sides.ensures c.requires.truth
