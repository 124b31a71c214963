use Rattle.std.proofs.Common.{◌∙◌, not, ap}
use Rattle.ir_programs.specs.Uses as spec
use Rattle.ir_programs.specs.declared.refusals.Cause.TheVariants.{UnknownFunction}
use Rattle.ir_resolve.proofs.Telling_more.{next_told, told_if}
use Rattle.ir_resolve.proofs.callees.unknown_told.Goals as goal

pub each-preserved : goal.each-preserved
each-preserved c =
    next_told (λ n. n.at) (λ n. not (spec.is_function c.args.tree.now n.text)) UnknownFunction c.each.now c.noted_if-now.result _ c.args.names.now c.each.name-index c.name-item.result c.each-test.true c.name-item.is
    (told_if UnknownFunction _ c.each.now c.noted_if-now.result _ _ c.noted_if-now.ensures (ap not (c.is_function-fails.ensures ∙ ap (spec.is_function c.args.tree.now) c.as_slice.ensures))) c.each.invariant
