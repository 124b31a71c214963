use Rattle.state_laws.proofs.Attempted.{attempt_keeps}
use Rattle.state_laws.proofs.laws.attempts_keep_fitting.Goals as goal

pub returns : goal.returns
returns c = attempt_keeps
