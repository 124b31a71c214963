use Rattle.log_laws.proofs.Births.{life_law}
use Rattle.log_laws.proofs.lives_are_of_the_history.Goals as goal

pub returns : goal.returns
returns c = life_law
