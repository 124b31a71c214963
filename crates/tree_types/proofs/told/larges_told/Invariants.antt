use Rattle.std.proofs.Common.{◌≡◌, drop}
use Rattle.std.specs.List.{flat_map}
use Rattle.ir_programs.specs.declared.refusals.Cause.TheVariants.{ObjectTooLarge}
use Rattle.tree_types.specs.Asked.{told_with, large_at}
use Rattle.tree_types.proofs.told.larges_told.Given as goal

abbrev pub invariant-each : goal.invariant-each
invariant-each l = told_with l.now ObjectTooLarge (flat_map (λ r. large_at l.definitions r.now) (drop l.kind-index l.types)) ≡ told_with l.fn.told ObjectTooLarge (flat_map (λ r. large_at l.definitions r.now) l.types)
