use Rattle.std.proofs.Common.{◌≡◌, ◌++◌, map, drop}
use Rattle.std.specs.List.{flat_map}
use Rattle.tree_types.specs.Asked as asked
use Rattle.tree_types.proofs.pieces.push_phis.Given as goal

abbrev pub invariant-each : goal.invariant-each
invariant-each l = map (λ r. r.now) l.types.items ++ flat_map (asked.phi_within) (drop l.phi-index l.phis) ≡ map (λ r. r.now) l.fn.types.items ++ flat_map (asked.phi_within) l.phis
