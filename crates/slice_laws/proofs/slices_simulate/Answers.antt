use Rattle.slice_laws.proofs.Following.{simulates}
use Rattle.slice_laws.proofs.slices_simulate.Goals as goal

pub returns : goal.returns
returns c = simulates
