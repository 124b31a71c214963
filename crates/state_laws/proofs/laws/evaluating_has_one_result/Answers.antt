use Rattle.state_laws.proofs.OneResult.{evaluates-one}
use Rattle.state_laws.proofs.laws.evaluating_has_one_result.Goals as goal

pub returns : goal.returns
returns c = evaluates-one
