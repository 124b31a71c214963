use Rattle.split_laws.proofs.Merges.{merges-split}
use Rattle.split_laws.proofs.Splits.{attempts-split, roots-least}
use Rattle.split_laws.proofs.laws.attempts_and_merges_split.Goals as goal

pub returns-clause-attempts : goal.returns-clause-attempts
returns-clause-attempts c = attempts-split

pub returns-clause-roots : goal.returns-clause-roots
returns-clause-roots c = roots-least

pub returns-clause-merges : goal.returns-clause-merges
returns-clause-merges c = merges-split
