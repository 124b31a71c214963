use Rattle.std.proofs.Common.{◌≡◌, ◌++◌, map, drop}
use Rattle.std.specs.List.{flat_map}
use Rattle.ir_programs.specs.Parts as spec
use Rattle.tree_types.proofs.pieces.push_indices.Given as goal

abbrev pub invariant-each : goal.invariant-each
invariant-each l = map (λ r. r.now) l.types.items ++ flat_map (λ i. spec.value_types i.value) (drop l.index-index l.indices) ≡ map (λ r. r.now) l.fn.types.items ++ flat_map (λ i. spec.value_types i.value) l.indices
