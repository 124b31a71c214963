use Rattle.std.proofs.Common.{◌≡◌, ◌++◌, map, drop}
use Rattle.tree_types.proofs.pieces.push_definitions.Given as goal

abbrev pub invariant-each : goal.invariant-each
invariant-each l = map (λ r. r.now) l.types.items ++ map (λ d. d.kind) (drop l.definition-index l.definitions) ≡ map (λ r. r.now) l.fn.types.items ++ map (λ d. d.kind) l.definitions
