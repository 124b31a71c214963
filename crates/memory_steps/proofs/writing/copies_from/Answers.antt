use Rattle.std.proofs.Common.{length, subst, sym}
use Rattle.leaves.specs.Fitting.{IsTermOf}
use Rattle.state_laws.proofs.States.{address_in-fits}
use Rattle.state_sides.specs.Views.{state_seen}
use Rattle.memory_steps.proofs.writing.copies_from.Goals as goal

pub copies_at-requires-clause-budget : goal.copies_at-requires-clause-budget
copies_at-requires-clause-budget g c κs within = c.requires.budget

pub copies_at-requires-clause-fitting : goal.copies_at-requires-clause-fitting
copies_at-requires-clause-fitting g c κs within = c.requires.fitting

pub copies_at-requires-clause-fits : goal.copies_at-requires-clause-fits
copies_at-requires-clause-fits g c κs within = c.requires.fits

pub copies_at-requires-clause-from : goal.copies_at-requires-clause-from
copies_at-requires-clause-from g c κs within =
    let n = length c.args.state.kept in
    subst (λ p. IsTermOf n 64 p.offset) (sym c.in_ok-source.ensures) (address_in-fits n (state_seen c.args.state) c.args.from.now c.requires.fits c.requires.from)

pub copies_at-requires-clause-there : goal.copies_at-requires-clause-there
copies_at-requires-clause-there g c κs within =
    let n = length c.args.state.kept in
    subst (λ p. IsTermOf n 64 p.offset) (sym c.in_ok-target.ensures) (address_in-fits n (state_seen c.args.state) c.args.there.now c.requires.fits c.requires.there)
