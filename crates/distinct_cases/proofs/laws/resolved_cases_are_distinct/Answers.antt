use Rattle.distinct_cases.proofs.Distinct.{cases-distinct}
use Rattle.distinct_cases.proofs.laws.resolved_cases_are_distinct.Goals as goal

pub returns : goal.returns
returns c = cases-distinct
