use Rattle.state_laws.proofs.Unneeded.{attempts-need-nothing}
use Rattle.state_laws.proofs.laws.attempts_need_nothing.Goals as goal

pub returns : goal.returns
returns c = attempts-need-nothing
