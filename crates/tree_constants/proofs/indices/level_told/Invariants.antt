use Rattle.std.proofs.Common.{◌≡◌, drop}
use Rattle.ir_programs.specs.declared.refusals.Cause.TheVariants.{BadInitialiser}
use Rattle.tree_constants.specs.Telling.{told_at, wide_among}
use Rattle.tree_constants.proofs.indices.level_told.Given as goal

abbrev pub invariant-loop-one : goal.invariant-loop-one
invariant-loop-one l = told_at BadInitialiser l.now (wide_among (drop l.one-index l.indices)) ≡ told_at BadInitialiser l.fn.told (wide_among l.indices)
