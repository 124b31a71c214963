use Rattle.std.proofs.Common.{length, sym, subst}
use Rattle.leaves.specs.Fitting.{IsTermOf}
use Rattle.sym_bytes.specs.Pointers.{Pointer}
use Rattle.state_laws.proofs.States.{address_in-fits}
use Rattle.state_sides.specs.Views.{state_seen}
use Rattle.sym_machine.proofs.remembering.frees_at.Goals as goal

pub frees-requires-clause-offset : goal.frees-requires-clause-offset
frees-requires-clause-offset g c κs within =
    subst (λ (p : Pointer). IsTermOf (length c.args.state.kept) 64 p.offset) (sym c.in_ok-freed.ensures) (address_in-fits (length c.args.state.kept) (state_seen c.args.state) c.args.pointer.now c.requires.fits c.requires.pointer)
