use Rattle.exploration_laws.proofs.Existence.{answers-reached, evaluations-exist, explorations-exist}
use Rattle.exploration_laws.proofs.laws.explorations_exist.Goals as goal

pub returns-clause-answers : goal.returns-clause-answers
returns-clause-answers c = answers-reached

pub returns-clause-evaluations : goal.returns-clause-evaluations
returns-clause-evaluations c = evaluations-exist

pub returns-clause-leaves : goal.returns-clause-leaves
returns-clause-leaves c = explorations-exist
