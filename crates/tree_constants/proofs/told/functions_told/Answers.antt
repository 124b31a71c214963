use Rattle.ir_programs.specs.Uses as uses
use Rattle.ir_programs.specs.declared.refusals.Cause.TheVariants.{FunctionValue}
use Rattle.tree_constants.proofs.OneByOne.{use_more}
use Rattle.tree_constants.proofs.told.functions_told.Goals as goal

pub loop-value-preserved : goal.loop-value-preserved
loop-value-preserved c =
    use_more FunctionValue (λ n. uses.is_function c.args.tree.now n.text) (λ v. uses.form_globals v.at v.form) c.args.values.now c.loop-value.value-index c.value-item.result
    c.loop-value-test.true c.value-item.is c.args.told c.loop-value.now c.function_told-now.result c.function_told-now.ensures c.loop-value.invariant
