use Rattle.std.proofs.Common.{◌≡◌, ◌++◌, drop, map}
use Rattle.std.specs.List.{list_all, flat_map, filter, find as find_in}
use Rattle.ir_programs.specs.Fits as spec
use Rattle.ir_programs.specs.Flow.{block_edges}
use Rattle.tree_fits.proofs.sets.push_edges.Given as goal

abbrev pub invariant-each : goal.invariant-each
invariant-each l = l.tests.items ++ map (spec.edge_fits l.place.tree.now l.place.function.now) (flat_map (block_edges l.place.function.now) (drop l.block-index l.blocks)) ≡ l.initial.tests.items ++ map (spec.edge_fits l.place.tree.now l.place.function.now) (flat_map (block_edges l.place.function.now) l.blocks)
