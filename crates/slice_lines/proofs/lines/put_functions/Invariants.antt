use Rattle.std.proofs.Common.{◌≡◌, ◌++◌, drop, length}
use Rattle.slice_lines.specs.Slices.{lines_from}
use Rattle.slice_lines.proofs.lines.put_functions.Given as goal

abbrev pub invariant-loop-f : goal.invariant-loop-f
invariant-loop-f l = record {
  lines : l.text.items ++ lines_from l.program l.asked.0 l.f (drop l.f l.funcs) ≡ l.fn.text.items ++ lines_from l.program l.asked.0 0 l.funcs;
  count : length l.funcs ≡ l.count;
}
