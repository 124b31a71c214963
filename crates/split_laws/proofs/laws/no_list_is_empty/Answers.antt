use Rattle.split_laws.proofs.Splits.{attempts-fork-some, merges-fork-some, lists-have-some}
use Rattle.split_laws.proofs.laws.no_list_is_empty.Goals as goal

pub returns-clause-attempts : goal.returns-clause-attempts
returns-clause-attempts c = attempts-fork-some

pub returns-clause-merges : goal.returns-clause-merges
returns-clause-merges c = merges-fork-some

pub returns-clause-lists : goal.returns-clause-lists
returns-clause-lists c = lists-have-some
