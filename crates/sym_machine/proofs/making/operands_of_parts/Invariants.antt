use Rattle.std.proofs.Common.{◌≡◌, ◌∷◌, ◌++◌, drop}
use Rattle.std.specs.List.{flat_map}
use Rattle.flat_ir.specs.Whole.{operands_of_part}
use Rattle.sym_machine.proofs.making.operands_of_parts.Given as goal

abbrev pub invariant-parts : goal.invariant-parts
invariant-parts l = l.operands ++ flat_map operands_of_part (drop l.part-index l.parts) ≡ l.base ∷ flat_map operands_of_part l.parts
