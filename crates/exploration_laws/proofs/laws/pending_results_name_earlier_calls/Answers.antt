use Rattle.exploration_laws.proofs.NamedSteps.{attempts-name}
use Rattle.exploration_laws.proofs.NamedMerges.{firsts-name, roots-name, merges-name, evaluations-name, explorations-name}
use Rattle.exploration_laws.proofs.laws.pending_results_name_earlier_calls.Goals as goal

pub returns-clause-first : goal.returns-clause-first
returns-clause-first c = firsts-name

pub returns-clause-attempts : goal.returns-clause-attempts
returns-clause-attempts c = attempts-name

pub returns-clause-roots : goal.returns-clause-roots
returns-clause-roots c = roots-name

pub returns-clause-merges : goal.returns-clause-merges
returns-clause-merges c = merges-name

pub returns-clause-leaves : goal.returns-clause-leaves
returns-clause-leaves c = evaluations-name

pub returns-clause-explored : goal.returns-clause-explored
returns-clause-explored c = explorations-name
