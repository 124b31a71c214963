use Rattle.std.proofs.Common.{not}
use Rattle.ir_programs.specs.declared.refusals.Cause.TheVariants.{MainParameters}
use Rattle.ir_resolve.proofs.Telling_more.{next_told, told_if}
use Rattle.std.specs.Prelude.{◌&&◌}
use Rattle.ir_programs.specs.Causes as causes
use Rattle.ir_resolve.proofs.mains.functions_told.Goals as goal

pub each-preserved : goal.each-preserved
each-preserved c =
    next_told (λ f. f.header.name.at) (λ f. causes.is_main f.header && not (causes.is_entry f.header)) MainParameters c.each.now c.noted_if-now.result _ c.args.functions.now c.each.function-index c.function-item.result c.each-test.true c.function-item.is
    (told_if MainParameters _ c.each.now c.noted_if-now.result _ _ c.noted_if-now.ensures (c.is_wrong-fails.ensures)) c.each.invariant
