use Rattle.typed_runs.proofs.Runs.{step_typed}
use Rattle.typed_runs.proofs.steps_keep_types.Goals as goal

pub returns : goal.returns
returns c = step_typed
