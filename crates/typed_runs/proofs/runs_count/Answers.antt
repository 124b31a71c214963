use Rattle.typed_runs.proofs.Counted.{run_counts}
use Rattle.typed_runs.proofs.runs_count.Goals as goal

pub returns : goal.returns
returns c = run_counts
