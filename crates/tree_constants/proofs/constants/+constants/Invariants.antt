use Rattle.std.proofs.Common.{◌≡◌, None, drop}
use Rattle.std.specs.List.{flat_map}
use Rattle.ir_programs.specs.Constants.{bad_constants}
use Rattle.ir_programs.specs.declared.refusals.Cause.TheVariants.{BadInitialiser}
use Rattle.tree_constants.specs.Telling.{told_at}
use Rattle.tree_constants.proofs.constants.+constants.Given as goal

abbrev pub invariant-bad_among-loop-constant : goal.invariant-bad_among-loop-constant
invariant-bad_among-loop-constant l =
    told_at BadInitialiser l.now (flat_map (bad_constants l.types) (drop l.constant-index l.constants)) ≡ told_at BadInitialiser None (flat_map (bad_constants l.types) l.constants)
