use Rattle.points_to.proofs.RunsWithin.{run_within}
use Rattle.points_to.proofs.laws.runs_stay_within.Goals as goal

pub returns : goal.returns
returns c = run_within
