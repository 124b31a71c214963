use Rattle.byte_laws.proofs.Joins.{value_law, test_law, mixed_law}
use Rattle.byte_laws.proofs.joins_give_the_value.Goals as goal

pub returns-clause-value : goal.returns-clause-value
returns-clause-value c = value_law

pub returns-clause-test : goal.returns-clause-test
returns-clause-test c = test_law

pub returns-clause-mixed : goal.returns-clause-mixed
returns-clause-mixed c = mixed_law
