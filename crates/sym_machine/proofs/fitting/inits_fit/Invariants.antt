use Rattle.std.specs.Prelude.{take}
use Rattle.std.specs.List.{AllByRecursion as Each}
use Rattle.sym_states.specs.Fitting.{InitFits}
use Rattle.sym_machine.proofs.fitting.inits_fit.Given as goal

abbrev pub invariant-loop-byte : goal.invariant-loop-byte
invariant-loop-byte l = Each InitFits (take l.byte-index l.bytes)
