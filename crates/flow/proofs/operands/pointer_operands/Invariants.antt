use Rattle.std.proofs.Common.{◌≡◌, ◌∷◌, take}
use Rattle.std.specs.List.{flat_map}
use Rattle.flat_ir.specs.Whole.{operands_of_part}
use Rattle.flow.proofs.operands.pointer_operands.Given as goal

abbrev pub invariant-loop-part : goal.invariant-loop-part
invariant-loop-part l = l.operands.items ≡ l.fn.base ∷ flat_map operands_of_part (take l.part-index l.parts)
