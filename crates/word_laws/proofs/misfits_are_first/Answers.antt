use Rattle.word_laws.proofs.Ending.{misfits-are-first}
use Rattle.word_laws.proofs.misfits_are_first.Goals as goal

pub returns : goal.returns
returns c = misfits-are-first
