use Rattle.std.proofs.Common.{◌∙◌, List, ap}
use Rattle.std.specs.List.{flat_map}
use Rattle.ir_tree.specs.declared.module.GlobalDefinition.{GlobalDefinition}
use Rattle.ir_tree.specs.declared.module.TypeDefinition.{TypeDefinition}
use Rattle.ir_programs.specs.Constants.{bad_constants}
use Rattle.ir_programs.specs.declared.refusals.Cause.TheVariants.{BadInitialiser}
use Rattle.tree_constants.specs.Telling.{told_at}
use Rattle.tree_constants.proofs.constants.constants_told.Goals as goal

pub returns : goal.returns
returns c =
    c.globals_told.ensures
    ∙ (ap (λ (ts : List TypeDefinition). told_at BadInitialiser c.args.told (flat_map (λ (g : GlobalDefinition). bad_constants ts g.value) c.as_slice-2.result.now)) c.as_slice.ensures
    ∙ ap (λ (gs : List GlobalDefinition). told_at BadInitialiser c.args.told (flat_map (λ (g : GlobalDefinition). bad_constants c.args.tree.now.types g.value) gs)) c.as_slice-2.ensures)
