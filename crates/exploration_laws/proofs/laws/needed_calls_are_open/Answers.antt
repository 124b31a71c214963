use Rattle.exploration_laws.proofs.Open.{needs-open, needs-rise}
use Rattle.exploration_laws.proofs.laws.needed_calls_are_open.Goals as goal

pub returns-clause-marks : goal.returns-clause-marks
returns-clause-marks c = needs-open

pub returns-clause-rise : goal.returns-clause-rise
returns-clause-rise c = needs-rise
