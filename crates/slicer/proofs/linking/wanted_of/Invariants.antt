use Rattle.std.proofs.Common.{◌≡◌, take}
use Rattle.slicer.specs.Links as spec
use Rattle.slicer.proofs.linking.wanted_of.Given as goal

abbrev pub invariant-loop-register : goal.invariant-loop-register
invariant-loop-register l = l.marks.items ≡ spec.wanted_of l.func (take l.register-index l.registers)
