use Rattle.ir_programs.specs.Causes as causes
use Rattle.ir_programs.specs.declared.refusals.Cause.TheVariants.{UnknownName}
use Rattle.ir_resolve.proofs.Telling_more.{next_places}
use Rattle.ir_resolve.proofs.told.all_registers_told.Goals as goal

pub each-preserved : goal.each-preserved
each-preserved c =
    next_places causes.unknown_registers UnknownName c.each.now c.in_ok-now.now _ c.args.functions.now c.each.function-index c.function-item.result c.each-test.true c.function-item.is c.in_ok-now.ensures c.each.invariant
