use Rattle.slice_laws.proofs.Alone.{simulates_in_runs}
use Rattle.slice_laws.proofs.slices_simulate_in_runs.Goals as goal

pub returns : goal.returns
returns c = simulates_in_runs
