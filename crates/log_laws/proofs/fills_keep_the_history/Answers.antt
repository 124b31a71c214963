use Rattle.log_laws.proofs.Fills.{fill_law}
use Rattle.log_laws.proofs.fills_keep_the_history.Goals as goal

pub returns : goal.returns
returns c = fill_law
