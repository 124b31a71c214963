use Rattle.slice_laws.proofs.Alone.{stands_alone}
use Rattle.slice_laws.proofs.calls_stand_alone.Goals as goal

pub returns : goal.returns
returns c = stands_alone
