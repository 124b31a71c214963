use Rattle.std.proofs.Common.{◌≡◌, map, take}
use Rattle.call_steps.proofs.entering.no_counts.Given as goal

abbrev pub invariant-nodes : goal.invariant-nodes
invariant-nodes l = l.counts ≡ map (λ n. 0) (take l._node-index l.nodes)
