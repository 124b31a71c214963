use Rattle.search.proofs.CountLemmas.{spent_bound, unspent}
use Rattle.search.proofs.spent_needs_as_many_conflicts.Goals as goal

pub returns-clause-bound : goal.returns-clause-bound
returns-clause-bound c = spent_bound

pub returns-clause-two_bytes : goal.returns-clause-two_bytes
returns-clause-two_bytes c = unspent
