use Rattle.std.proofs.Common.{◌≡◌, ◌++◌, drop}
use Rattle.std.specs.List.{list_all, flat_map, filter, find as find_in}
use Rattle.ir_programs.specs.Fits as spec
use Rattle.tree_fits.proofs.calls.push_blocks.Given as goal

abbrev pub invariant-each : goal.invariant-each
invariant-each l = l.tests.items ++ flat_map (spec.block_fits l.place.tree.now l.place.function.now) (drop l.block-index l.blocks) ≡ l.initial.tests.items ++ flat_map (spec.block_fits l.place.tree.now l.place.function.now) l.blocks
