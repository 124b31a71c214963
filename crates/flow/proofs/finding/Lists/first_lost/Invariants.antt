use Rattle.std.proofs.Common.{take}
use Rattle.flow.specs.Paths.{IsLost, NoneOf}
use Rattle.flow.proofs.finding.Lists.first_lost.Given as goal

abbrev pub invariant-loop-register : goal.invariant-loop-register
invariant-loop-register l = NoneOf (IsLost l.self.func.now l.node) (take l.register-index l.registers)
