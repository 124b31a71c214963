use Rattle.std.proofs.Common.{◌≡◌, drop}
use Rattle.std.specs.List.{flat_map}
use Rattle.ir_programs.specs.Constants.{wide_value_indices}
use Rattle.ir_programs.specs.declared.refusals.Cause.TheVariants.{BadInitialiser}
use Rattle.tree_constants.specs.Telling.{told_at}
use Rattle.tree_constants.specs.Values.{lent}
use Rattle.tree_constants.proofs.told.widths_told.Given as goal

abbrev pub invariant-loop-value : goal.invariant-loop-value
invariant-loop-value l =
    told_at BadInitialiser l.now (flat_map wide_value_indices (lent (drop l.value-index l.values))) ≡ told_at BadInitialiser l.fn.told (flat_map wide_value_indices (lent l.values))
