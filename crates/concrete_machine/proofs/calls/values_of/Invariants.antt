use Rattle.std.proofs.Common.{◌≡◌, map, take}
use Rattle.flat_ir.specs.Machine.{value_in}
use Rattle.concrete_machine.specs.Frames.{frame_of}
use Rattle.concrete_machine.proofs.calls.values_of.Given as goal

abbrev pub invariant-loop-operand : goal.invariant-loop-operand
invariant-loop-operand l = l.values.items ≡ map (value_in (frame_of l.frame)) (take l.operand-index l.args)
