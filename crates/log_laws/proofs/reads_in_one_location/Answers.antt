use Rattle.log_laws.proofs.Accesses.{read_law_in}
use Rattle.log_laws.proofs.reads_in_one_location.Goals as goal

pub returns : goal.returns
returns c = read_law_in
