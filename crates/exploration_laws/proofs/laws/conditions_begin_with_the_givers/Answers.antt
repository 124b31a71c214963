use Rattle.exploration_laws.proofs.Attempts.{attempts-begin}
use Rattle.exploration_laws.proofs.Evaluations.{evaluations-begin}
use Rattle.exploration_laws.proofs.Merges.{merges-begin, roots-begin}
use Rattle.exploration_laws.proofs.laws.conditions_begin_with_the_givers.Goals as goal

pub returns-clause-attempts : goal.returns-clause-attempts
returns-clause-attempts c = attempts-begin

pub returns-clause-roots : goal.returns-clause-roots
returns-clause-roots c = roots-begin

pub returns-clause-merges : goal.returns-clause-merges
returns-clause-merges c = merges-begin

pub returns-clause-leaves : goal.returns-clause-leaves
returns-clause-leaves c = evaluations-begin
