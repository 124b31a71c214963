use Rattle.points_to.proofs.RunsWithin.{step_within}
use Rattle.points_to.proofs.laws.steps_stay_within.Goals as goal

pub returns : goal.returns
returns c = step_within
