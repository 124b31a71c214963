use Rattle.std.proofs.Common.{length, subst, sym}
use Rattle.leaves.specs.Fitting.{IsTermOf}
use Rattle.state_laws.specs.Kept.{ValueFitsAt}
use Rattle.state_laws.proofs.States.{address_in-fits, value_in-fits}
use Rattle.state_sides.specs.Views.{state_seen}
use Rattle.memory_steps.proofs.writing.stores_at.Goals as goal

pub stores-requires-clause-budget : goal.stores-requires-clause-budget
stores-requires-clause-budget g c κs within = c.requires.budget

pub stores-requires-clause-fitting : goal.stores-requires-clause-fitting
stores-requires-clause-fitting g c κs within = c.requires.fitting

pub stores-requires-clause-fits : goal.stores-requires-clause-fits
stores-requires-clause-fits g c κs within = c.requires.fits

pub stores-requires-clause-value : goal.stores-requires-clause-value
stores-requires-clause-value g c κs within =
    let n = length c.args.state.kept in
    subst (ValueFitsAt n) (sym c.in_ok-stored.ensures) (value_in-fits n (state_seen c.args.state) c.args.value.now c.requires.fits c.requires.value)

pub stores-requires-clause-there : goal.stores-requires-clause-there
stores-requires-clause-there g c κs within =
    let n = length c.args.state.kept in
    subst (λ p. IsTermOf n 64 p.offset) (sym c.in_ok-there.ensures) (address_in-fits n (state_seen c.args.state) c.args.pointer.now c.requires.fits c.requires.pointer)
