use Rattle.log_laws.proofs.Fills.{output_law}
use Rattle.log_laws.proofs.outputs_are_of_the_history.Goals as goal

pub returns : goal.returns
returns c = output_law
