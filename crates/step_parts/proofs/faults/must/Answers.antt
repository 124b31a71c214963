use Rattle.std.proofs.Common.{length}
use Rattle.sym_states.specs.Attempts.{must}
use Rattle.state_laws.specs.Kept.{StateFitsAt}
use Rattle.state_laws.proofs.Accesses.{must-fits}
use Rattle.state_sides.specs.Views.{state_seen, flow_seen, context_of}
use Rattle.step_parts.proofs.Flows.{ok-fits}
use Rattle.step_parts.proofs.faults.must.Goals as goal

pub returns-clause-fits : goal.returns-clause-fits
returns-clause-fits g c =
    let n = length c.args.state.kept in
    let setting = context_of c.args.machine.now.scope in
    ok-fits (flow_seen state_seen) n (StateFitsAt n) c.passes.result (must setting c.args.holds.now c.args.kind (state_seen c.args.state))
    (must-fits setting n c.args.holds.now c.args.kind (state_seen c.args.state) c.requires.fitting c.requires.truth c.requires.fits)
    c.passes.ensures
