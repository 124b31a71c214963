use Rattle.std.proofs.Common.{◌≡◌, ◌++◌, map, drop}
use Rattle.std.specs.List.{flat_map}
use Rattle.ir_programs.specs.Parts as spec
use Rattle.tree_types.proofs.pieces.push_written_in_blocks.Given as goal

abbrev pub invariant-each : goal.invariant-each
invariant-each l = map (λ r. r.now) l.types.items ++ flat_map (λ b. flat_map (λ i. spec.operation_types i.operation) b.instructions) (drop l.block-index l.blocks) ≡ map (λ r. r.now) l.fn.types.items ++ flat_map (λ b. flat_map (λ i. spec.operation_types i.operation) b.instructions) l.blocks
