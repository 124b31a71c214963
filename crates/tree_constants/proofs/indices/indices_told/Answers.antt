use Rattle.std.proofs.Common.{◌∙◌, List, refl, ap}
use Rattle.std.specs.List.{flat_map}
use Rattle.ir_tree.specs.declared.constants.ConstIndex.{ConstIndex}
use Rattle.ir_tree.specs.declared.constants.GepLevel.{GepLevel}
use Rattle.ir_programs.specs.declared.refusals.Cause.TheVariants.{BadInitialiser}
use Rattle.tree_constants.specs.Telling.{told_at, wide_among}
use Rattle.tree_constants.proofs.OneByOne.{one_more}
use Rattle.tree_constants.proofs.indices.indices_told.Goals as goal

pub loop-level-preserved : goal.loop-level-preserved
loop-level-preserved c =
    let l = c.level-item.result in
    one_more BadInitialiser (λ ls. flat_map (λ (v : GepLevel). wide_among v.indices) ls) (λ (v : GepLevel). wide_among v.indices) (λ v vs. refl) c.args.levels.now c.loop-level.level-index l
    c.loop-level-test.true c.level-item.is c.args.told c.loop-level.now c.level_told-now.result
    (c.level_told-now.ensures ∙ ap (λ (is : List ConstIndex). told_at BadInitialiser c.loop-level.now (wide_among is)) c.as_slice.ensures) c.loop-level.invariant
