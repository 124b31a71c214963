use Rattle.std.proofs.Common.{◌≡◌, drop}
use Rattle.std.specs.List.{flat_map}
use Rattle.ir_programs.specs.Causes.{is_empty}
use Rattle.ir_programs.specs.Constants as spec
use Rattle.tree_constants.proofs.steps.gep_steps_fit.Given as goal

abbrev pub invariant-loop-level : goal.invariant-loop-level
invariant-loop-level l = is_empty (flat_map (spec.bad_level_steps l.types) (drop l.level-index l.levels)) ≡ is_empty (flat_map (spec.bad_level_steps l.types) l.levels)
