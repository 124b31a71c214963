use Rattle.state_laws.proofs.Explored.{explored_leaves-free}
use Rattle.state_laws.proofs.laws.explored_leaves_have_no_calls.Goals as goal

pub returns : goal.returns
returns c = explored_leaves-free
