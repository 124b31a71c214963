use Rattle.std.proofs.Common.{◌≡◌, drop}
use Rattle.terms.specs.Tree.{width_of}
use Rattle.sym_bytes.specs.Joining.{all_equal}
use Rattle.sym_bytes.proofs.joining.all_equal.Given as goal

abbrev pub invariant-loop-other : goal.invariant-loop-other
invariant-loop-other g l = (all_equal l.first l.test (drop l.other-index l.others) ≡ all_equal l.first l.fn.so_far l.others) × (width_of l.test ≡ 1)
