use Rattle.std.proofs.Common.{◌≡◌, ◌++◌, map, drop}
use Rattle.std.specs.List.{flat_map}
use Rattle.ir_programs.specs.Parts.{types_in}
use Rattle.tree_types.proofs.nested.+nested.Given as goal

abbrev pub invariant-push_all_nested-each : goal.invariant-push_all_nested-each
invariant-push_all_nested-each l = map (λ r. r.now) l.types.items ++ flat_map types_in (drop l.kind-index l.kinds) ≡ map (λ r. r.now) l.fn.types.items ++ flat_map types_in l.kinds
