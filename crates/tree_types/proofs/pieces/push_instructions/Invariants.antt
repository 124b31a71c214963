use Rattle.std.proofs.Common.{◌≡◌, ◌++◌, map, drop}
use Rattle.std.specs.List.{flat_map}
use Rattle.tree_types.specs.Asked as asked
use Rattle.tree_types.proofs.pieces.push_instructions.Given as goal

abbrev pub invariant-each : goal.invariant-each
invariant-each l = map (λ r. r.now) l.types.items ++ flat_map (λ i. asked.operation_within i.operation) (drop l.instruction-index l.instructions) ≡ map (λ r. r.now) l.fn.types.items ++ flat_map (λ i. asked.operation_within i.operation) l.instructions
