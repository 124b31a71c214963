use Rattle.std.proofs.Common.{◌≡◌, ◌++◌, drop}
use Rattle.sym_states.specs.States.{results_of}
use Rattle.state_sides.proofs.telling.results_of.Given as goal

abbrev pub invariant-snapshots : goal.invariant-snapshots
invariant-snapshots g l = l.list ++ results_of (drop l.snapshot-index l.snapshots) ≡ results_of l.snapshots
