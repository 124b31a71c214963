use Rattle.typed_runs.proofs.Fitted.{step_fits}
use Rattle.typed_runs.proofs.steps_keep_fitting.Goals as goal

pub returns : goal.returns
returns c = step_fits
