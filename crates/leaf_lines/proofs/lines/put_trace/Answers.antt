use Rattle.leaf_lines.proofs.Fits.{path-fits}
use Rattle.leaf_lines.proofs.lines.put_trace.Goals as goal

pub put_events-requires-clause-events : goal.put_events-requires-clause-events
put_events-requires-clause-events g c = rw c.path.ensures (path-fits c.args.told.now.kept c.args.told.now c.requires)
