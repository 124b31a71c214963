use Rattle.state_laws.proofs.Explored.{explored_leaves-fit}
use Rattle.state_laws.proofs.laws.explored_leaves_fit.Goals as goal

pub returns : goal.returns
returns c = explored_leaves-fit
