use Rattle.std.proofs.Common.{◌≡◌, drop}
use Rattle.std.specs.List.{flat_map}
use Rattle.ir_programs.specs.declared.refusals.Cause.TheVariants.{UnknownName}
use Rattle.tree_types.specs.Asked.{told_with, unknown_at}
use Rattle.tree_types.proofs.told.unknowns_told.Given as goal

abbrev pub invariant-each : goal.invariant-each
invariant-each l = told_with l.now UnknownName (flat_map (λ r. unknown_at l.definitions r.now) (drop l.kind-index l.types)) ≡ told_with l.fn.told UnknownName (flat_map (λ r. unknown_at l.definitions r.now) l.types)
