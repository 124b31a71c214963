use Rattle.std.proofs.Common.{◌≡◌, ◌++◌, reverse, length}
use Rattle.state_sides.proofs.path.Path.backwards.Given as goal

abbrev pub invariant-links : goal.invariant-links
invariant-links g l = l.list.items ++ reverse l.left ≡ reverse l.fn.self

abbrev pub decreases-links : goal.decreases-links
decreases-links g l = length l.left
