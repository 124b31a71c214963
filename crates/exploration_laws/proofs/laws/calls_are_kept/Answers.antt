use Rattle.exploration_laws.proofs.Calls.{firsts-keep, attempts-keep, roots-keep, merges-keep, needs-are-calls}
use Rattle.exploration_laws.proofs.laws.calls_are_kept.Goals as goal

pub returns-clause-first : goal.returns-clause-first
returns-clause-first c = firsts-keep

pub returns-clause-attempts : goal.returns-clause-attempts
returns-clause-attempts c = attempts-keep

pub returns-clause-roots : goal.returns-clause-roots
returns-clause-roots c = roots-keep

pub returns-clause-merges : goal.returns-clause-merges
returns-clause-merges c = merges-keep

pub returns-clause-needs : goal.returns-clause-needs
returns-clause-needs c = needs-are-calls
