use Rattle.std.proofs.Common.{◌≡◌, drop}
use Rattle.std.specs.List.{flat_map}
use Rattle.ir_programs.specs.declared.refusals.Cause.TheVariants.{DuplicateName}
use Rattle.tree_types.specs.Asked.{told_with, twice_at}
use Rattle.tree_types.proofs.told.duplicates_told.Given as goal

abbrev pub invariant-each : goal.invariant-each
invariant-each l = told_with l.now DuplicateName (flat_map (λ d. twice_at l.definitions d.name) (drop l.definition-index l.definitions)) ≡ told_with l.fn.told DuplicateName (flat_map (λ d. twice_at l.definitions d.name) l.definitions)
