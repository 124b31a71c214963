use Rattle.std.proofs.Common.{◌≡◌, ◌+◌, drop}
use Rattle.ir_programs.specs.Flow.{node_count}
use Rattle.tree_nodes.proofs.flow.node_count.Given as goal

abbrev pub invariant-loop-block : goal.invariant-loop-block
invariant-loop-block l = l.count + node_count (drop l.block-index l.blocks) ≡ node_count l.blocks
