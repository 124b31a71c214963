use Rattle.std.proofs.Common.{◌≡◌, ◌++◌, length}
use Rattle.write_log.proofs.marks.put_back.Given as goal

abbrev pub invariant-loop-item : goal.invariant-loop-item
invariant-loop-item g l = l.items ++ l.trail ≡ l.fn.above ++ l.fn.below

abbrev pub decreases-loop-item : goal.decreases-loop-item
decreases-loop-item g l = length l.items
