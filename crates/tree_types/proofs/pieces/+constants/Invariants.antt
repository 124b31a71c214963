use Rattle.std.proofs.Common.{◌≡◌, ◌++◌, map, drop}
use Rattle.std.specs.List.{flat_map}
use Rattle.ir_programs.specs.Parts as spec
use Rattle.tree_types.proofs.pieces.+constants.Given as goal

abbrev pub invariant-push_constants-each : goal.invariant-push_constants-each
invariant-push_constants-each l = map (λ r. r.now) l.types.items ++ flat_map (λ ts. ts) (map spec.constant_types (drop l.constant-index l.constants)) ≡ map (λ r. r.now) l.fn.types.items ++ flat_map (λ ts. ts) (map spec.constant_types l.constants)
