use Rattle.std.proofs.Common.{[], ◌∙◌, ap, List}
use Rattle.std.specs.List.{flat_map}
use Rattle.ir_tree.specs.declared.instructions.Block.{Block}
use Rattle.ir_programs.specs.declared.refusals.Cause.TheVariants.{DuplicateName}
use Rattle.ir_programs.specs.Causes as causes
use Rattle.ir_resolve.specs.Telling.{told_of}
use Rattle.ir_resolve.proofs.Telling_more.{next_places}
use Rattle.ir_resolve.proofs.cases.all_cases_told.Goals as goal

pub each-preserved : goal.each-preserved
each-preserved c =
    next_places causes.duplicate_cases DuplicateName c.each.now c.blocks_told-now.result _ c.args.functions.now c.each.function-index c.function-item.result c.each-test.true c.function-item.is
    (c.blocks_told-now.ensures ∙ ap (λ (bs : List Block). told_of DuplicateName c.each.now (flat_map (λ b. causes.repeated_cases [] (causes.terminator_cases b.terminator.form)) bs)) c.as_slice.ensures) c.each.invariant
