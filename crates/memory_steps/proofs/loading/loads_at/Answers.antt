use Rattle.std.proofs.Common.{length, subst, sym}
use Rattle.leaves.specs.Fitting.{IsTermOf}
use Rattle.sym_bytes.specs.Pointers.{Pointer}
use Rattle.state_laws.proofs.States.{address_in-fits}
use Rattle.state_sides.specs.Views.{state_seen}
use Rattle.memory_steps.proofs.loading.loads_at.Goals as goal

pub loads_there-requires-clause-budget : goal.loads_there-requires-clause-budget
loads_there-requires-clause-budget g c κs within = c.requires.budget

pub loads_there-requires-clause-fitting : goal.loads_there-requires-clause-fitting
loads_there-requires-clause-fitting g c κs within = c.requires.fitting

pub loads_there-requires-clause-fits : goal.loads_there-requires-clause-fits
loads_there-requires-clause-fits g c κs within = c.requires.fits

pub loads_there-requires-clause-short : goal.loads_there-requires-clause-short
loads_there-requires-clause-short g c κs within = c.requires.short

pub loads_there-requires-clause-there : goal.loads_there-requires-clause-there
loads_there-requires-clause-there g c κs within =
    let n = length c.args.state.kept in
    subst (λ p. IsTermOf n 64 p.offset) (sym c.in_ok-there.ensures) (address_in-fits n (state_seen c.args.state) c.args.pointer.now c.requires.fits c.requires.operand)
