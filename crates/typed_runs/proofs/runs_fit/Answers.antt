use Rattle.typed_runs.proofs.Fitted.{run_fits}
use Rattle.typed_runs.proofs.runs_fit.Goals as goal

pub returns : goal.returns
returns c = run_fits
