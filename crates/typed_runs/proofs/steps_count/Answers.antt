use Rattle.typed_runs.proofs.Counted.{step_counts}
use Rattle.typed_runs.proofs.steps_count.Goals as goal

pub returns : goal.returns
returns c = step_counts
