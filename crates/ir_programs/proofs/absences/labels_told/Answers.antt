use Rattle.std.proofs.Common.{◌≡◌, ◌∙◌, ℕ, List, ap}
use Rattle.ir_tree.specs.declared.types.Name.{Name}
use Rattle.ir_programs.specs.Locals.{labels_of}
use Rattle.ir_programs.specs.Parts.{function_labels}
use Rattle.ir_programs.specs.Steps.{absences_left}
use Rattle.ir_programs.specs.declared.refusals.Cause.TheVariants.{UnknownName}
use Rattle.ir_programs.proofs.absences.labels_told.Goals as goal

pub returns : goal.returns
returns c =
    let f = c.args.function.now in
    let names : c.as_slice.result.now ≡ function_labels f = c.as_slice.ensures.value ∙ c.in_ok-names.ensures in
    let texts : c.as_slice-2.result.now ≡ labels_of f = c.as_slice-2.ensures.value ∙ c.in_ok-texts.ensures in
    c.absences_told.ensures ∙ (ap (λ (ns : List Name). absences_left UnknownName c.args.told c.as_slice-2.result.now ns) names
    ∙ ap (λ (ts : List (List ℕ)). absences_left UnknownName c.args.told ts (function_labels f)) texts)
