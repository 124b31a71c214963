use Rattle.std.proofs.Common.{length, subst, sym}
use Rattle.leaves.specs.Fitting.{IsTermOf}
use Rattle.state_laws.proofs.Terms.{is_start-fits}
use Rattle.memory_steps.proofs.freeing.frees_null.Goals as goal

pub must-requires-clause-budget : goal.must-requires-clause-budget
must-requires-clause-budget g c κs within = c.requires.budget

pub must-requires-clause-fitting : goal.must-requires-clause-fitting
must-requires-clause-fitting g c κs within = c.requires.fitting

pub must-requires-clause-fits : goal.must-requires-clause-fits
must-requires-clause-fits g c κs within = c.requires.fits

pub must-requires-clause-truth : goal.must-requires-clause-truth
must-requires-clause-truth g c κs within =
    let n = length c.args.state.kept in
    subst (IsTermOf n 1) (sym c.in_ok-holds.ensures.value) (is_start-fits n c.args.offset.now c.requires.offset)
