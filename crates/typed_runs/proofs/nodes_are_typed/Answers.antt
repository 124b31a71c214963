use Rattle.typed_runs.proofs.Checked.{node_typed}
use Rattle.typed_runs.proofs.nodes_are_typed.Goals as goal

pub returns : goal.returns
returns c = node_typed
