use Rattle.mod_ref.proofs.CallsChange.{step_adds}
use Rattle.mod_ref.proofs.laws.steps_change_own.Goals as goal

pub returns : goal.returns
returns c = step_adds
