use Rattle.std.specs.Prelude.{take}
use Rattle.std.specs.List.{AllByRecursion as Each}
use Rattle.state_laws.specs.Kept.{PartFits}
use Rattle.sym_machine.proofs.fitting.parts_fit.Given as goal

abbrev pub invariant-loop-part : goal.invariant-loop-part
invariant-loop-part l = Each PartFits (take l.part-index l.parts)
