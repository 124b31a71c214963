use Rattle.typed_runs.proofs.Shows.{trace_typed}
use Rattle.typed_runs.proofs.traces_are_typed.Goals as goal

pub returns : goal.returns
returns c = trace_typed
