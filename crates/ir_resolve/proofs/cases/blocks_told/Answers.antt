use Rattle.std.proofs.Common.{[]}
use Rattle.ir_programs.specs.declared.refusals.Cause.TheVariants.{DuplicateName}
use Rattle.ir_programs.specs.Causes as causes
use Rattle.ir_resolve.proofs.Telling_more.{next_places}
use Rattle.ir_resolve.proofs.cases.blocks_told.Goals as goal

pub each-preserved : goal.each-preserved
each-preserved c =
    next_places (λ b. causes.repeated_cases [] (causes.terminator_cases b.terminator.form)) DuplicateName c.each.now c.terminator_told-now.result _ c.args.blocks.now c.each.block-index c.block-item.result c.each-test.true
    c.block-item.is c.terminator_told-now.ensures c.each.invariant
