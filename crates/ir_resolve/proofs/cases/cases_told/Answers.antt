use Rattle.ir_programs.specs.declared.refusals.Cause.TheVariants.{DuplicateName}
use Rattle.ir_resolve.proofs.Telling_more.{told_if}
use Rattle.ir_resolve.proofs.Casing.{next_case}
use Rattle.ir_resolve.proofs.cases.cases_told.Goals as goal

pub places-preserved : goal.places-preserved
places-preserved c =
    next_case c.places.now c.noted_if-now.result _ c.args.cases.now c.places.place c.index-cases-place.result c.places-test.true c.index-cases-place.is
    (told_if DuplicateName _ c.places.now c.noted_if-now.result _ _ c.noted_if-now.ensures c.is_case_of-fails.ensures) c.places.invariant
