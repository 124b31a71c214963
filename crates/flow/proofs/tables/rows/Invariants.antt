use Rattle.std.proofs.Common.{◌≡◌, map, take}
use Rattle.flow.specs.Paths.{row_of}
use Rattle.flow.proofs.tables.rows.Given as goal

abbrev pub invariant-loop-node : goal.invariant-loop-node
invariant-loop-node l = l.rows.items ≡ map row_of (take l.node-index l.nodes)
