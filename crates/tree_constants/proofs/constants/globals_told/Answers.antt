use Rattle.std.proofs.Common.{◌∙◌, refl, ap}
use Rattle.std.specs.List.{flat_map}
use Rattle.ir_tree.specs.declared.module.GlobalDefinition.{GlobalDefinition}
use Rattle.ir_programs.specs.Constants.{bad_constants}
use Rattle.ir_programs.specs.Refusals.{merged}
use Rattle.ir_programs.specs.declared.refusals.Cause.TheVariants.{BadInitialiser}
use Rattle.tree_constants.proofs.OneByOne.{one_more}
use Rattle.tree_constants.proofs.constants.globals_told.Goals as goal

pub loop-global-preserved : goal.loop-global-preserved
loop-global-preserved c =
    let bad = λ (g : GlobalDefinition). bad_constants c.args.types.now g.value in
    one_more BadInitialiser (flat_map bad) bad (λ g gs. refl) c.args.globals.now c.loop-global.global-index c.global-item.result
    c.loop-global-test.true c.global-item.is c.args.told c.loop-global.now c.merged-now.result (c.merged-now.ensures ∙ ap (merged c.loop-global.now) c.bad_of.ensures) c.loop-global.invariant
