use Rattle.std.proofs.Common.{length, subst, sym}
use Rattle.leaves.specs.Fitting.{AreTermsOf}
use Rattle.state_laws.proofs.Accesses.{output-at}
use Rattle.state_sides.specs.Views.{state_seen}
use Rattle.step_parts.proofs.faults.faulted.Goals as goal

pub ends-requires-clause-output : goal.ends-requires-clause-output
ends-requires-clause-output g c =
    let n = length c.args.state.now.kept in
    subst (AreTermsOf n 8) (sym c.in_ok-output.ensures) (output-at n (state_seen c.args.state.now) c.requires.fits)
