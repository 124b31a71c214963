use Rattle.typed_runs.proofs.ShownFit.{trace_fits}
use Rattle.typed_runs.proofs.traces_fit.Goals as goal

pub returns : goal.returns
returns c = trace_fits
