use Rattle.std.proofs.Common.{length, sym, subst}
use Rattle.leaves.specs.Fitting.{ValueFits}
use Rattle.state_laws.proofs.States.{value_in-fits}
use Rattle.state_sides.specs.Views.{state_seen}
use Rattle.sym_machine.proofs.ending.exits_with.Goals as goal

pub exits-requires-clause-value : goal.exits-requires-clause-value
exits-requires-clause-value g c =
    subst (ValueFits (length c.args.state.kept)) (sym c.in_ok-status.ensures) (value_in-fits (length c.args.state.kept) (state_seen c.args.state) c.args.status.now c.requires.fits c.requires.status).fits
