use Rattle.std.proofs.Common.{◌≡◌, ◌++◌, drop}
use Rattle.std.specs.List.{flat_map}
use Rattle.tree_constants.specs.Values.{lent, values_of_block}
use Rattle.tree_constants.proofs.values.push_blocks.Given as goal

abbrev pub invariant-loop-block : goal.invariant-loop-block
invariant-loop-block l = lent l.values.items ++ flat_map values_of_block (drop l.block-index l.blocks) ≡ lent l.initial.values.items ++ flat_map values_of_block l.blocks
