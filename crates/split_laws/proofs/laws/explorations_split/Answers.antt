use Rattle.split_laws.proofs.Splits.{evaluations-split, explorations-split}
use Rattle.split_laws.proofs.laws.explorations_split.Goals as goal

pub returns-clause-evaluations : goal.returns-clause-evaluations
returns-clause-evaluations c = evaluations-split

pub returns-clause-explorations : goal.returns-clause-explorations
returns-clause-explorations c = explorations-split
