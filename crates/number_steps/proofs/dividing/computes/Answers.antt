use Rattle.std.proofs.Common.{length, refl}
use Rattle.state_sides.specs.Views.{state_seen}
use Rattle.number_steps.proofs.Fitted.{number-term}
use Rattle.number_steps.proofs.dividing.computes.Goals as goal

pub divides-requires-clause-budget : goal.divides-requires-clause-budget
divides-requires-clause-budget g c κs within = c.requires.budget

pub divides-requires-clause-fitting : goal.divides-requires-clause-fitting
divides-requires-clause-fitting g c κs within = c.requires.fitting

pub divides-requires-clause-fits : goal.divides-requires-clause-fits
divides-requires-clause-fits g c κs within = c.requires.fits

pub divides-requires-clause-dividend : goal.divides-requires-clause-dividend
divides-requires-clause-dividend g c κs within = number-term (length c.args.state.kept) (state_seen c.args.state) c.args.a.now c.in_ok-x.x c.in_ok-x.ensures c.requires.fits c.requires.first

pub divides-requires-clause-divisor : goal.divides-requires-clause-divisor
divides-requires-clause-divisor g c κs within = number-term (length c.args.state.kept) (state_seen c.args.state) c.args.b.now c.in_ok-y.y c.in_ok-y.ensures c.requires.fits c.requires.second

pub same-value : goal.same-value
same-value g c = refl
