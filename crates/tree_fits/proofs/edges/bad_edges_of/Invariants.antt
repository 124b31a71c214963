use Rattle.std.proofs.Common.{◌≡◌, ◌++◌, drop}
use Rattle.std.specs.List.{flat_map}
use Rattle.ir_programs.specs.Edges as spec
use Rattle.tree_fits.proofs.edges.bad_edges_of.Given as goal

abbrev pub invariant-loop-block : goal.invariant-loop-block
invariant-loop-block l = l.tests.items ++ flat_map (spec.block_edges_right l.fn.function) (drop l.block-index l.blocks) ≡ flat_map (spec.block_edges_right l.fn.function) l.blocks
