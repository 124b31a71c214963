use Rattle.std.proofs.Common.{◌≡◌, length}
use Rattle.least.specs.Sets.{has}
use Rattle.control_closure.specs.Sums.{SumUpBelow}
use Rattle.control_closure.proofs.summing.count_all.Given as goal

abbrev pub invariant-loop-target : goal.invariant-loop-target
invariant-loop-target l = record {
  size : length l.mets ≡ length l.fn.mets;
  below : SumUpBelow l.graph.succ (has l.retained) l.target l.mets;
}
