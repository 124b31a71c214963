use Rattle.std.proofs.Common.{◌≡◌, drop}
use Rattle.std.specs.List.{flat_map}
use Rattle.ir_programs.specs.declared.refusals.Cause.TheVariants.{BadInitialiser}
use Rattle.tree_constants.specs.Telling.{told_at, wide_among}
use Rattle.tree_constants.proofs.indices.indices_told.Given as goal

abbrev pub invariant-loop-level : goal.invariant-loop-level
invariant-loop-level l = told_at BadInitialiser l.now (flat_map (λ v. wide_among v.indices) (drop l.level-index l.levels)) ≡ told_at BadInitialiser l.fn.told (flat_map (λ v. wide_among v.indices) l.levels)
