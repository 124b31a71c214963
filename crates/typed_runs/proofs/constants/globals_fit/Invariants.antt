use Rattle.std.specs.Prelude.{take, All}
use Rattle.std.specs.List.{AllByRecursion as Each}
use Rattle.typed_runs.specs.FittingRuns.{InitFits}
use Rattle.typed_runs.proofs.constants.globals_fit.Given as goal

abbrev pub invariant-loop-global : goal.invariant-loop-global
invariant-loop-global l = Each (λ g. All InitFits g.init) (take l.global-index l.globals)
