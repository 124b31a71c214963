use Rattle.std.proofs.Common.{◌≡◌, map, take}
use Rattle.flat_ir.specs.Whole.{results_of}
use Rattle.flow.proofs.tables.results_of_each.Given as goal

abbrev pub invariant-loop-node : goal.invariant-loop-node
invariant-loop-node l = l.each.items ≡ map results_of (take l.node-index l.nodes)
