use Rattle.std.specs.Prelude.{take}
use Rattle.std.specs.List.{AllByRecursion as Each}
use Rattle.sym_machine.specs.Numbers.{AllNumbersFit}
use Rattle.sym_machine.proofs.fitting.funcs_fit.Given as goal

abbrev pub invariant-loop-func : goal.invariant-loop-func
invariant-loop-func l = Each (λ f. AllNumbersFit f.nodes) (take l.func-index l.funcs)
