use Rattle.std.specs.Prelude.{not}
use Rattle.ir_programs.specs.Uses as uses
use Rattle.ir_programs.specs.declared.refusals.Cause.TheVariants.{UnknownName}
use Rattle.tree_constants.specs.Telling.{is_known}
use Rattle.tree_constants.proofs.OneByOne.{use_more}
use Rattle.tree_constants.proofs.told.globals_told.Goals as goal

pub loop-value-preserved : goal.loop-value-preserved
loop-value-preserved c =
    use_more UnknownName (λ n. not (is_known c.args.tree.now n.text)) (λ v. uses.form_globals v.at v.form) c.args.values.now c.loop-value.value-index c.value-item.result
    c.loop-value-test.true c.value-item.is c.args.told c.loop-value.now c.global_told-now.result c.global_told-now.ensures c.loop-value.invariant
