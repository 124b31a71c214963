use Rattle.std.specs.Prelude.{take}
use Rattle.std.specs.List.{AllByRecursion as Each}
use Rattle.flat_ir.specs.Whole.{operands_of_part}
use Rattle.state_laws.specs.Kept.{OperandsFit}
use Rattle.sym_machine.proofs.fitting.indices_fit.Given as goal

abbrev pub invariant-loop-part : goal.invariant-loop-part
invariant-loop-part l = Each (λ p. OperandsFit (operands_of_part p)) (take l.part-index l.parts)
