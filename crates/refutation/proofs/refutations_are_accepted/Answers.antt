use Rattle.refutation.proofs.CheckLemmas.{accepted}
use Rattle.refutation.proofs.refutations_are_accepted.Goals as goal

pub returns : goal.returns
returns c = accepted
