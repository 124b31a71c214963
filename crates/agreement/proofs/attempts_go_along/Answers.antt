use Rattle.agreement.proofs.Whole.{attempts-along}
use Rattle.agreement.proofs.attempts_go_along.Goals as goal

pub returns : goal.returns
returns c = attempts-along
