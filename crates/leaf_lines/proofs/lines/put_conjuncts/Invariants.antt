use Rattle.std.proofs.Common.{◌≡◌, ◌++◌, take}
use Rattle.std.specs.List.{flat_map}
use Rattle.leaf_lines.specs.Report.{conjunct_line}
use Rattle.leaf_lines.proofs.lines.put_conjuncts.Given as goal

abbrev pub invariant-loop-conjunct : goal.invariant-loop-conjunct
invariant-loop-conjunct g l = l.text.items ≡ l.fn.text.items ++ flat_map conjunct_line (take l.conjunct-index l.conjuncts)
