use Rattle.std.proofs.Common.{◌≡◌, ◌+◌, ◌++◌, drop}
use Rattle.leaf_lines.specs.Report.{leaves_from}
use Rattle.leaf_lines.proofs.lines.put_leaves.Given as goal

abbrev pub invariant-loop-place : goal.invariant-loop-place
invariant-loop-place g l = l.text.items ++ leaves_from l.program l.options (l.place + 1) (drop l.place l.leaves) ≡ l.fn.text.items ++ leaves_from l.program l.options 1 l.leaves
