use Rattle.std.proofs.Common.{◌≡◌, ◌++◌, map, drop}
use Rattle.std.specs.List.{flat_map}
use Rattle.tree_types.specs.Asked as asked
use Rattle.tree_types.proofs.pieces.+within.Given as goal

abbrev pub invariant-push_within_constants-each : goal.invariant-push_within_constants-each
invariant-push_within_constants-each l = map (λ r. r.now) l.types.items ++ flat_map (λ ts. ts) (map asked.constant_within (drop l.constant-index l.constants)) ≡ map (λ r. r.now) l.fn.types.items ++ flat_map (λ ts. ts) (map asked.constant_within l.constants)
