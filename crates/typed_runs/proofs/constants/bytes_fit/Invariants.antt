use Rattle.std.specs.Prelude.{take}
use Rattle.std.specs.List.{AllByRecursion as Each}
use Rattle.typed_runs.specs.FittingRuns.{InitFits}
use Rattle.typed_runs.proofs.constants.bytes_fit.Given as goal

abbrev pub invariant-loop-byte : goal.invariant-loop-byte
invariant-loop-byte l = Each InitFits (take l.byte-index l.bytes)
