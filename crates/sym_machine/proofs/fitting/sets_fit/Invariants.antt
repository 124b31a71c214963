use Rattle.std.specs.Prelude.{take}
use Rattle.std.specs.List.{AllByRecursion as Each}
use Rattle.state_laws.specs.Kept.{OperandFits}
use Rattle.sym_machine.proofs.fitting.sets_fit.Given as goal

abbrev pub invariant-loop-entry : goal.invariant-loop-entry
invariant-loop-entry l = Each (λ s. OperandFits s.value) (take l.entry-index l.sets)
