use Rattle.std.proofs.Common.{◌≡◌, take, map}
use Rattle.slices.specs.Slice.{leads_to}
use Rattle.slicer.proofs.graphs.rows.Given as goal

abbrev pub invariant-loop-node : goal.invariant-loop-node
invariant-loop-node l = l.rows.items ≡ map (leads_to l.end) (take l.node-index l.nodes)
