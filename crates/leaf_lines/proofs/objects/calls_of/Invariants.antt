use Rattle.std.proofs.Common.{◌≡◌, ◌++◌, length}
use Rattle.leaf_lines.proofs.objects.calls_of.Given as goal

abbrev pub invariant-links : goal.invariant-links
invariant-links l = l.calls.items ++ l.left ≡ l.fn.frame

abbrev pub decreases-links : goal.decreases-links
decreases-links l = length l.left
