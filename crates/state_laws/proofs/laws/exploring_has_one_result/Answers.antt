use Rattle.state_laws.proofs.OneResult.{explores-one}
use Rattle.state_laws.proofs.laws.exploring_has_one_result.Goals as goal

pub returns : goal.returns
returns c = explores-one
