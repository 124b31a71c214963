use Rattle.exploration_laws.proofs.Attempts.{attempts-fall}
use Rattle.exploration_laws.proofs.Merges.{merges-fall, roots-fall}
use Rattle.exploration_laws.proofs.laws.steps_left_fall.Goals as goal

pub returns-clause-attempts : goal.returns-clause-attempts
returns-clause-attempts c = attempts-fall

pub returns-clause-roots : goal.returns-clause-roots
returns-clause-roots c = roots-fall

pub returns-clause-merges : goal.returns-clause-merges
returns-clause-merges c = merges-fall
