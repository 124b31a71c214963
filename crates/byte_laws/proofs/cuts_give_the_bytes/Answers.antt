use Rattle.byte_laws.proofs.Cuts.{cut_law}
use Rattle.byte_laws.proofs.cuts_give_the_bytes.Goals as goal

pub returns : goal.returns
returns c = cut_law
