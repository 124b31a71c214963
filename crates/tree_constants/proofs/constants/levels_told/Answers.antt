use Rattle.std.proofs.Common.{refl}
use Rattle.std.specs.List.{flat_map}
use Rattle.ir_programs.specs.Constants.{bad_level_steps}
use Rattle.ir_programs.specs.declared.refusals.Cause.TheVariants.{BadInitialiser}
use Rattle.tree_constants.proofs.OneByOne.{one_more}
use Rattle.tree_constants.proofs.constants.levels_told.Goals as goal

pub loop-level-preserved : goal.loop-level-preserved
loop-level-preserved c =
    one_more BadInitialiser (flat_map (bad_level_steps c.args.types.now)) (bad_level_steps c.args.types.now) (λ l ls. refl) c.args.levels.now c.loop-level.level-index c.level-item.result
    c.loop-level-test.true c.level-item.is c.args.told c.loop-level.now c.level_told-now.result c.level_told-now.ensures c.loop-level.invariant
