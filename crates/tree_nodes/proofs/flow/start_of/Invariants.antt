use Rattle.std.proofs.Common.{◌≡◌, drop}
use Rattle.ir_programs.specs.Flow.{start_of, start_among}
use Rattle.tree_nodes.proofs.flow.start_of.Given as goal

abbrev pub invariant-loop-block : goal.invariant-loop-block
invariant-loop-block l = start_of l.fn.function l.name ≡ start_among l.start l.name (drop l.block-index l.blocks)
