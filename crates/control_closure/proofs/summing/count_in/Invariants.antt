use Rattle.std.proofs.Common.{◌<◌, ◌≤◌, ◌≡◌, ℕ, true, false, length}
use Rattle.least.specs.Sets.{has}
use Rattle.control_closure.specs.Sums.{with_target, at_node}
use Rattle.control_closure.proofs.summing.count_in.Given as goal

abbrev pub invariant-loop-node : goal.invariant-loop-node
invariant-loop-node l = record {
  size : length l.mets ≡ length l.fn.mets;
  later : (n : ℕ) → l.node ≤ n → at_node l.mets n ≡ at_node l.fn.mets n;
  others : (n : ℕ) → has l.meeters n ≡ false → at_node l.mets n ≡ at_node l.fn.mets n;
  counted : (n : ℕ) → n < l.node → has l.meeters n ≡ true → at_node l.mets n ≡ with_target (at_node l.fn.mets n) l.target;
}
