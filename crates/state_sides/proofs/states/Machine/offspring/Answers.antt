use Rattle.std.proofs.Common.{length}
use Rattle.state_sides.proofs.Asking.{truths-after}
use Rattle.state_sides.proofs.states.Machine.offspring.Goals as goal

pub candidate-requires-clause-truths : goal.candidate-requires-clause-truths
candidate-requires-clause-truths g c κs within =
    truths-after (length c.args.state.now.kept) c.in_ok-add.field-0 c.args.state.now.condition c.in_ok-condition.condition c.add.new.self c.args.conjunct.now c.in_ok-add.ensures.list c.in-Appended.is c.in_ok-condition.ensures c.requires.fits.condition c.requires.truth
