use Rattle.std.proofs.Common.{length, arith}
use Rattle.sym_states.specs.Attempts.{access}
use Rattle.state_laws.specs.Kept.{ReachedFits}
use Rattle.state_laws.proofs.Accesses.{access-fits}
use Rattle.state_sides.specs.Views.{state_seen, flow_seen, context_of}
use Rattle.step_parts.proofs.Flows.{ok-fits}
use Rattle.memory_steps.specs.Views.{reached_seen}
use Rattle.memory_steps.proofs.accesses.access.Goals as goal

pub returns-clause-fits : goal.returns-clause-fits
returns-clause-fits g c =
    let n = length c.args.state.kept in
    let setting = context_of c.args.machine.now.scope in
    ok-fits (flow_seen reached_seen) n (ReachedFits n) c.access_at.result (access setting c.args.count c.args.pointer.now (state_seen c.args.state))
    (access-fits setting n c.args.count c.args.pointer.now (state_seen c.args.state) c.requires.fitting (omega (arith, c.ranges.count.fits)) c.requires.offset c.requires.fits)
    c.access_at.ensures
