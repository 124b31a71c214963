use Rattle.std.proofs.Common.{◌≡◌, ◌++◌, take}
use Rattle.std.specs.List.{flat_map}
use Rattle.slice_lines.specs.Slices.{spaced_next}
use Rattle.slice_lines.proofs.lines.put_nexts.Given as goal

abbrev pub invariant-loop-next : goal.invariant-loop-next
invariant-loop-next l = l.text.items ≡ l.fn.text.items ++ flat_map spaced_next (take l.next-index l.nexts)
