use Rattle.std.proofs.Common.{refl}
use Rattle.std.specs.List.{flat_map}
use Rattle.ir_programs.specs.Constants.{wide_value_indices}
use Rattle.ir_programs.specs.declared.refusals.Cause.TheVariants.{BadInitialiser}
use Rattle.tree_constants.specs.Values.{lent}
use Rattle.tree_constants.proofs.OneByOne.{one_more}
use Rattle.tree_constants.proofs.told.widths_told.Goals as goal

pub loop-value-preserved : goal.loop-value-preserved
loop-value-preserved c =
    one_more BadInitialiser (λ rs. flat_map wide_value_indices (lent rs)) (λ r. wide_value_indices r.now) (λ r rs. refl) c.args.values.now c.loop-value.value-index c.value-item.result
    c.loop-value-test.true c.value-item.is c.args.told c.loop-value.now c.width_told-now.result c.width_told-now.ensures c.loop-value.invariant
