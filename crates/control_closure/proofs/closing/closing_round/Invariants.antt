use Rattle.std.proofs.Common.{◌≡◌, ◌<◌, ◌↔◌, ◌⊎◌, ℕ, true, length}
use Rattle.least.specs.Sets.{has}
use Rattle.control_closure.specs.Met.{Parts}
use Rattle.control_closure.proofs.closing.closing_round.Given as goal

abbrev pub invariant-loop-node : goal.invariant-loop-node
invariant-loop-node l = record {
  size : length l.next.items ≡ l.node;
  nodes : (n : ℕ) → n < l.node → (has l.next.items n ≡ true) ↔ ((has l.retained n ≡ true) ⊎ Parts l.graph.succ (has l.retained) n);
}
