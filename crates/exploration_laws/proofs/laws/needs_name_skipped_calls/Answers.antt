use Rattle.exploration_laws.proofs.NamedSteps.{values-need, bytes-need, attempts-need}
use Rattle.exploration_laws.proofs.laws.needs_name_skipped_calls.Goals as goal

pub returns-clause-values : goal.returns-clause-values
returns-clause-values c = values-need

pub returns-clause-bytes : goal.returns-clause-bytes
returns-clause-bytes c = bytes-need

pub returns-clause-attempts : goal.returns-clause-attempts
returns-clause-attempts c = attempts-need
