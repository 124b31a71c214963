use Rattle.std.proofs.Common.{◌∙◌, List, sym, ap}
use Rattle.std.specs.List.{flat_map}
use Rattle.ir_tree.specs.declared.constants.GepLevel.{GepLevel}
use Rattle.ir_tree.specs.declared.constants.ValueForm.{ValueForm}
use Rattle.ir_programs.specs.Constants.{wide_form_indices}
use Rattle.ir_programs.specs.declared.refusals.Cause.TheVariants.{BadInitialiser}
use Rattle.tree_constants.specs.Telling.{told_at, wide_among}
use Rattle.tree_constants.proofs.told.width_told.Goals as goal

pub returns-in-Gep : goal.returns-in-Gep
returns-in-Gep c =
    c.indices_told.ensures
    ∙ (ap (λ (ls : List GepLevel). told_at BadInitialiser c.args.told (flat_map (λ (l : GepLevel). wide_among l.indices) ls)) c.as_slice.ensures
    ∙ ap (λ (f : ValueForm). told_at BadInitialiser c.args.told (wide_form_indices f)) (sym c.in-Gep.is))
