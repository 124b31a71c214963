use Rattle.std.proofs.Common.{◌≡◌, drop}
use Rattle.ir_programs.specs.Flow.{phis_of, phis_among}
use Rattle.tree_nodes.proofs.flow.phis_of.Given as goal

abbrev pub invariant-loop-block : goal.invariant-loop-block
invariant-loop-block l = phis_of l.fn.function l.name ≡ phis_among l.name (drop l.block-index l.blocks)
