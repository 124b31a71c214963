use Rattle.std.proofs.Common.{◌∙◌, ap}
use Rattle.ir_programs.specs.Uses as spec
use Rattle.ir_programs.specs.declared.refusals.Cause.TheVariants.{ReservedName}
use Rattle.ir_resolve.proofs.Telling_more.{next_told, told_if}
use Rattle.ir_resolve.proofs.names.reserved_told.Goals as goal

pub each-preserved : goal.each-preserved
each-preserved c =
    next_told (λ n. n.at) (λ n. spec.is_reserved n.text) ReservedName c.each.now c.noted_if-now.result _ c.args.names.now c.each.name-index c.name-item.result c.each-test.true c.name-item.is
    (told_if ReservedName _ c.each.now c.noted_if-now.result _ _ c.noted_if-now.ensures (c.is_reserved-fails.ensures ∙ ap spec.is_reserved c.as_slice.ensures)) c.each.invariant
