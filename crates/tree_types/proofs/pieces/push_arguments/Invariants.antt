use Rattle.std.proofs.Common.{◌≡◌, ◌++◌, map, drop}
use Rattle.std.specs.List.{flat_map}
use Rattle.ir_programs.specs.Parts as spec
use Rattle.tree_types.proofs.pieces.push_arguments.Given as goal

abbrev pub invariant-each : goal.invariant-each
invariant-each l = map (λ r. r.now) l.types.items ++ flat_map (λ a. spec.value_types a.value) (drop l.argument-index l.arguments) ≡ map (λ r. r.now) l.fn.types.items ++ flat_map (λ a. spec.value_types a.value) l.arguments
