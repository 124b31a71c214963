use Rattle.std.proofs.Common.{length, arith}
use Rattle.sym_states.specs.Attempts.{reads}
use Rattle.state_laws.specs.Kept.{ReadBytesFits}
use Rattle.state_laws.proofs.Accesses.{reads-fits}
use Rattle.state_sides.specs.Views.{flow_seen, context_of}
use Rattle.step_parts.proofs.Flows.{ok-fits}
use Rattle.memory_steps.specs.Views.{reached_seen, bytes_seen}
use Rattle.memory_steps.proofs.reading.reads.Goals as goal

pub returns-clause-fits : goal.returns-clause-fits
returns-clause-fits g c =
    let n = length c.args.reached.state.kept in
    let setting = context_of c.args.machine.now.scope in
    ok-fits (flow_seen bytes_seen) n (ReadBytesFits n c.args.count) c.reads_known.result (reads setting c.args.count (reached_seen c.args.reached))
    (reads-fits setting n c.args.count (reached_seen c.args.reached) c.requires.fitting (omega (arith, c.ranges.count.fits)) c.requires.fits)
    c.reads_known.ensures
