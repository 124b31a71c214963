use Rattle.slice_laws.proofs.Following.{states_agree}
use Rattle.slice_laws.proofs.residual_states_agree.Goals as goal

pub returns : goal.returns
returns c = states_agree
