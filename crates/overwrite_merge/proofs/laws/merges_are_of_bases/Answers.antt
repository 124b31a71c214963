use Rattle.overwrite_merge.proofs.Bases.{merges_same}
use Rattle.overwrite_merge.proofs.laws.merges_are_of_bases.Goals as goal

pub returns : goal.returns
returns c = merges_same
