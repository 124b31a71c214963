use Rattle.std.specs.Prelude.{take}
use Rattle.std.specs.List.{AllByRecursion as Each}
use Rattle.sym_states.specs.Fitting.{InitsFit}
use Rattle.sym_machine.proofs.fitting.globals_fit.Given as goal

abbrev pub invariant-loop-global : goal.invariant-loop-global
invariant-loop-global l = Each (λ g. InitsFit g.init) (take l.global-index l.globals)
