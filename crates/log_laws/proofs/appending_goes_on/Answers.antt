use Rattle.log_laws.proofs.Appending.{entry_law, mark_law}
use Rattle.log_laws.proofs.appending_goes_on.Goals as goal

pub returns-clause-entry : goal.returns-clause-entry
returns-clause-entry c = entry_law

pub returns-clause-mark : goal.returns-clause-mark
returns-clause-mark c = mark_law
