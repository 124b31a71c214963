use Rattle.std.proofs.Common.{◌≡◌, ◌++◌, map, drop}
use Rattle.std.specs.List.{flat_map}
use Rattle.ir_programs.specs.Parts.{types_in}
use Rattle.tree_types.proofs.nested.push_pieces.Given as goal

abbrev pub invariant-each : goal.invariant-each
invariant-each l = map (λ r. r.now) l.types.items ++ flat_map types_in (map (λ r. r.now) (drop l.piece-index l.pieces)) ≡ map (λ r. r.now) l.fn.types.items ++ flat_map types_in (map (λ r. r.now) l.pieces)
