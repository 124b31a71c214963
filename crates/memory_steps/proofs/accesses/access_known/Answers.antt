use Rattle.std.proofs.Common.{length, subst, sym}
use Rattle.sym_states.specs.Fitting.{LivingFits}
use Rattle.state_laws.proofs.Accesses.{life-at}
use Rattle.state_sides.specs.Views.{state_seen}
use Rattle.memory_steps.proofs.accesses.access_known.Goals as goal

pub access_alive-requires-clause-life : goal.access_alive-requires-clause-life
access_alive-requires-clause-life g c κs within =
    let n = length c.args.state.kept in
    subst (LivingFits n) (sym c.in_ok-living.ensures) (life-at n c.args.object.now (state_seen c.args.state) c.requires.fits)
