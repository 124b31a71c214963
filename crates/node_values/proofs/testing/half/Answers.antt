use Rattle.node_values.proofs.Widths.{half_fits}
use Rattle.node_values.proofs.testing.half.Goals as goal

pub returns-clause-fits : goal.returns-clause-fits
returns-clause-fits c = half_fits c.args.width c.requires
