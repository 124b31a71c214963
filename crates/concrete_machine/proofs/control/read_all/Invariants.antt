use Rattle.std.proofs.Common.{◌≡◌, map, take}
use Rattle.flat_ir.specs.Machine.{value_in}
use Rattle.concrete_machine.specs.Frames.{frame_of}
use Rattle.concrete_machine.proofs.control.read_all.Given as goal

abbrev pub invariant-loop-entry : goal.invariant-loop-entry
invariant-loop-entry l = l.pairs.items ≡ map (λ m. (m.register, value_in (frame_of l.frame) m.value)) (take l.entry-index l.sets)
