use Rattle.std.proofs.Common.{◌≡◌, map, take}
use Rattle.concrete_machine.proofs.calls.no_counts.Given as goal

abbrev pub invariant-loop-node : goal.invariant-loop-node
invariant-loop-node l = l.counts.items ≡ map (λ n. 0) (take l._node-index l.nodes)
