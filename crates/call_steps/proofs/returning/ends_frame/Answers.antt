use Rattle.std.proofs.Common.{length, sym, subst}
use Rattle.sym_states.specs.States.{State}
use Rattle.state_laws.specs.Kept.{StateFitsAt}
use Rattle.state_laws.proofs.Ends.{ended-fits}
use Rattle.state_sides.specs.Views.{context_of, state_seen}
use Rattle.call_steps.proofs.returning.ends_frame.Goals as goal

pub leaves_to-requires-clause-fits : goal.leaves_to-requires-clause-fits
leaves_to-requires-clause-fits g c κs within =
    subst (λ (s : State). StateFitsAt (length s.kept) s) (sym c.in_ok-state.ensures)
    (ended-fits (context_of c.args.machine.now.scope) (length c.args.state.kept) (state_seen c.args.state) c.requires.fits)
