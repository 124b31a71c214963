use Rattle.std.proofs.Common.{◌≡◌, length}
use Rattle.leaf_lines.specs.Values.{with_results}
use Rattle.leaf_lines.proofs.shown.with_results.Given as goal

abbrev pub invariant-calls : goal.invariant-calls
invariant-calls g l = with_results l.older l.shown ≡ with_results l.fn.results l.fn.value

abbrev pub decreases-calls : goal.decreases-calls
decreases-calls g l = length l.older
