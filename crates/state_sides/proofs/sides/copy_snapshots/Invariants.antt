use Rattle.std.proofs.Common.{◌≡◌, take}
use Rattle.state_sides.proofs.sides.copy_snapshots.Given as goal

abbrev pub invariant-snapshots : goal.invariant-snapshots
invariant-snapshots g l = l.list ≡ take l.snapshot-index l.snapshots
