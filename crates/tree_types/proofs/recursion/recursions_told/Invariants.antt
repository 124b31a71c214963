use Rattle.std.proofs.Common.{◌≡◌, drop}
use Rattle.std.specs.List.{flat_map}
use Rattle.ir_programs.specs.declared.refusals.Cause.TheVariants.{RecursiveType}
use Rattle.tree_types.specs.Asked.{told_with, recursive_at}
use Rattle.tree_types.proofs.recursion.recursions_told.Given as goal

abbrev pub invariant-each : goal.invariant-each
invariant-each l = told_with l.now RecursiveType (flat_map (recursive_at l.types) (drop l.definition-index l.types)) ≡ told_with l.fn.told RecursiveType (flat_map (recursive_at l.types) l.types)
