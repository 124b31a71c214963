use Rattle.std.proofs.Common.{◌≡◌, ◌++◌, drop}
use Rattle.slice_lines.specs.Slices.{node_lines}
use Rattle.slice_lines.proofs.lines.put_nodes.Given as goal

abbrev pub invariant-loop-n : goal.invariant-loop-n
invariant-loop-n l = l.text.items ++ node_lines l.program l.func l.n (drop l.n l.kept) ≡ l.fn.text.items ++ node_lines l.program l.func 0 l.kept
