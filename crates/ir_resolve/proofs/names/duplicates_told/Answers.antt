use Rattle.ir_programs.specs.Uses as spec
use Rattle.ir_programs.specs.declared.refusals.Cause.TheVariants.{DuplicateName}
use Rattle.ir_resolve.proofs.Telling_more.{next_told, told_if}
use Rattle.ir_resolve.proofs.names.duplicates_told.Goals as goal

pub each-preserved : goal.each-preserved
each-preserved c =
    next_told (λ n. n.at) (spec.stands_before c.args.names.now) DuplicateName c.each.now c.noted_if-now.result _ c.args.names.now c.each.name-index c.name-item.result c.each-test.true c.name-item.is
    (told_if DuplicateName _ c.each.now c.noted_if-now.result _ _ c.noted_if-now.ensures (c.stands_before-fails.ensures)) c.each.invariant
