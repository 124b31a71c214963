use Rattle.mod_ref.proofs.CallsChange.{calls_change}
use Rattle.mod_ref.proofs.laws.calls_change_own.Goals as goal

pub returns : goal.returns
returns c = calls_change
