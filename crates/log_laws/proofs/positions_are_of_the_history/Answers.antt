use Rattle.log_laws.proofs.Fills.{position_law}
use Rattle.log_laws.proofs.positions_are_of_the_history.Goals as goal

pub returns : goal.returns
returns c = position_law
