use Rattle.std.proofs.Common.{◌≡◌, map, drop}
use Rattle.ir_programs.specs.Uses as uses
use Rattle.tree_types.proofs.told.stands_before.Given as goal

abbrev pub invariant-each : goal.invariant-each
invariant-each l = uses.stands_before (map (λ d. d.name) l.definitions) l.name ≡ uses.stands_before (map (λ d. d.name) (drop l.definition-index l.definitions)) l.name
