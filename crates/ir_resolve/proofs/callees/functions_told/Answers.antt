use Rattle.std.proofs.Common.{not}
use Rattle.ir_programs.specs.Uses as spec
use Rattle.ir_programs.specs.Texts.{places_where}
use Rattle.ir_programs.specs.Parts.{function_callees as callees_in}
use Rattle.ir_programs.specs.declared.refusals.Cause.TheVariants.{UnknownFunction}
use Rattle.ir_resolve.proofs.Telling_more.{next_places}
use Rattle.ir_resolve.proofs.callees.functions_told.Goals as goal

pub each-preserved : goal.each-preserved
each-preserved c =
    next_places (λ f. places_where (λ n. not (spec.is_function c.args.tree.now n.text)) (callees_in f)) UnknownFunction c.each.now c.in_ok-now.now _ c.args.functions.now c.each.function-index c.function-item.result c.each-test.true c.function-item.is c.in_ok-now.ensures c.each.invariant
