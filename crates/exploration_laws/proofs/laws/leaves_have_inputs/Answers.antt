use Rattle.exploration_laws.proofs.Attempts.{attempts-have}
use Rattle.exploration_laws.proofs.Evaluations.{evaluations-have}
use Rattle.exploration_laws.proofs.Merges.{merges-have, roots-have}
use Rattle.exploration_laws.proofs.laws.leaves_have_inputs.Goals as goal

pub returns-clause-attempts : goal.returns-clause-attempts
returns-clause-attempts c = attempts-have

pub returns-clause-roots : goal.returns-clause-roots
returns-clause-roots c = roots-have

pub returns-clause-merges : goal.returns-clause-merges
returns-clause-merges c = merges-have

pub returns-clause-leaves : goal.returns-clause-leaves
returns-clause-leaves c = evaluations-have
