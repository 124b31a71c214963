use Rattle.std.proofs.Common.{length, ap, sym, ◌∙◌}
use Rattle.state_sides.specs.Offers.{tested_seen}
use Rattle.state_sides.specs.Views.{state_seen, context_of}
use Rattle.step_parts.proofs.Flows.{bad-fits}
use Rattle.step_parts.proofs.faults.passes.Goals as goal

pub fails-requires : goal.fails-requires
fails-requires g c = record {
  fits = bad-fits (context_of c.args.machine.now.scope) (length c.args.state.kept) c.args.holds.now (state_seen c.args.state) (state_seen c.in-Bad.state)
      (tested_seen c.in_ok-tested.tested) c.requires.fitting c.requires.truth c.requires.fits c.in_ok-tested.ensures (ap tested_seen c.in-Bad.is);
}
