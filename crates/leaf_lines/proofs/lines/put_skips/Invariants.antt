use Rattle.std.proofs.Common.{◌≡◌, ◌++◌, take}
use Rattle.std.specs.List.{flat_map}
use Rattle.leaf_lines.specs.Report.{skip_line}
use Rattle.leaf_lines.proofs.lines.put_skips.Given as goal

abbrev pub invariant-loop-name : goal.invariant-loop-name
invariant-loop-name l = l.text.items ≡ l.fn.text.items ++ flat_map skip_line (take l.name-index l.skips)
