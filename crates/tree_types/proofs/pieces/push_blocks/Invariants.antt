use Rattle.std.proofs.Common.{◌≡◌, ◌++◌, map, drop}
use Rattle.std.specs.List.{flat_map}
use Rattle.tree_types.specs.Asked as asked
use Rattle.tree_types.proofs.pieces.push_blocks.Given as goal

abbrev pub invariant-each : goal.invariant-each
invariant-each l = map (λ r. r.now) l.types.items ++ flat_map (asked.block_within) (drop l.block-index l.blocks) ≡ map (λ r. r.now) l.fn.types.items ++ flat_map (asked.block_within) l.blocks
