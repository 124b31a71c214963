use Rattle.std.proofs.Common.{◌+◌, ◌*◌, length}
use Rattle.search.proofs.+walk.Given as goal

abbrev pub decreases-descend : goal.decreases-descend
decreases-descend l = 3 * length l.order.now + 1

abbrev pub decreases-branch : goal.decreases-branch
decreases-branch l = 3 * length l.order.now

abbrev pub decreases-side : goal.decreases-side
decreases-side l = 3 * length l.order.now + 2
