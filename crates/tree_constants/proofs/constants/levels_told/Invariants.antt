use Rattle.std.proofs.Common.{◌≡◌, drop}
use Rattle.std.specs.List.{flat_map}
use Rattle.ir_programs.specs.Constants.{bad_level_steps}
use Rattle.ir_programs.specs.declared.refusals.Cause.TheVariants.{BadInitialiser}
use Rattle.tree_constants.specs.Telling.{told_at}
use Rattle.tree_constants.proofs.constants.levels_told.Given as goal

abbrev pub invariant-loop-level : goal.invariant-loop-level
invariant-loop-level l =
    told_at BadInitialiser l.now (flat_map (bad_level_steps l.types) (drop l.level-index l.levels)) ≡ told_at BadInitialiser l.fn.told (flat_map (bad_level_steps l.types) l.levels)
