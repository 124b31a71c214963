use Rattle.std.proofs.Common.{◌≡◌, ◌++◌, map, drop}
use Rattle.std.specs.List.{flat_map}
use Rattle.ir_programs.specs.Parts as spec
use Rattle.tree_types.proofs.pieces.push_written_in_functions.Given as goal

abbrev pub invariant-each : goal.invariant-each
invariant-each l = map (λ r. r.now) l.types.items ++ flat_map (spec.function_types) (drop l.function-index l.functions) ≡ map (λ r. r.now) l.fn.types.items ++ flat_map (spec.function_types) l.functions
