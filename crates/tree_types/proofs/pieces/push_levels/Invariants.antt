use Rattle.std.proofs.Common.{◌≡◌, ◌++◌, map, drop}
use Rattle.tree_types.proofs.pieces.push_levels.Given as goal

abbrev pub invariant-each : goal.invariant-each
invariant-each l = map (λ r. r.now) l.types.items ++ map (λ l. l.source) (drop l.level-index l.levels) ≡ map (λ r. r.now) l.fn.types.items ++ map (λ l. l.source) l.levels
