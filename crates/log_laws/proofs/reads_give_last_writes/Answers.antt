use Rattle.log_laws.proofs.Accesses.{read_law}
use Rattle.log_laws.proofs.reads_give_last_writes.Goals as goal

pub returns : goal.returns
returns c = read_law
