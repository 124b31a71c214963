use Rattle.std.specs.Prelude.{take}
use Rattle.std.specs.List.{AllByRecursion as Each}
use Rattle.bitnum.specs.Number.{IsNumber}
use Rattle.sym_machine.proofs.fitting.cases_fit.Given as goal

abbrev pub invariant-loop-case : goal.invariant-loop-case
invariant-loop-case l = Each (λ k. IsNumber k.number) (take l.case-index l.cases)
