use Rattle.typed_runs.proofs.Runs.{run_typed}
use Rattle.typed_runs.proofs.runs_are_typed.Goals as goal

pub returns : goal.returns
returns c = run_typed
