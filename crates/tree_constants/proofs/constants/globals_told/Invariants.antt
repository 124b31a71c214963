use Rattle.std.proofs.Common.{◌≡◌, drop}
use Rattle.std.specs.List.{flat_map}
use Rattle.ir_programs.specs.Constants.{bad_constants}
use Rattle.ir_programs.specs.declared.refusals.Cause.TheVariants.{BadInitialiser}
use Rattle.tree_constants.specs.Telling.{told_at}
use Rattle.tree_constants.proofs.constants.globals_told.Given as goal

abbrev pub invariant-loop-global : goal.invariant-loop-global
invariant-loop-global l =
    told_at BadInitialiser l.now (flat_map (λ g. bad_constants l.types g.value) (drop l.global-index l.globals))
    ≡ told_at BadInitialiser l.fn.told (flat_map (λ g. bad_constants l.types g.value) l.globals)
