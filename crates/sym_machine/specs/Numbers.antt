-- The numbers that stand in a program fit: each operand's, the places and sizes of fields and elements, the sizes of objects on
-- the stack, and the cases of switches.
use Rattle.std.specs.Prelude.{◌<◌, ◌^◌, List, [], ◌∷◌}
use Rattle.flat_ir.specs.declared.nodes.Node.{Node}
use Rattle.flat_ir.specs.declared.nodes.Node.TheVariants as node
use Rattle.flat_ir.specs.Whole.{operands_of}
use Rattle.state_laws.specs.Kept.{OperandsFit, PartsFit, CasesFit}

-- the numbers of a node beside its operands
abbrev pub OthersFit : Node → Type 0
OthersFit (node.Gep base parts result next) = PartsFit parts
OthersFit (node.Alloca size result next) = size < 2 ^ 64
OthersFit (node.Switch value cases otherwise) = CasesFit cases
OthersFit _ = Unit {0}

pub record NumbersFit (n : Node) : Type 0 where
  pub operands : OperandsFit (operands_of n)
  pub others : OthersFit n

abbrev pub AllNumbersFit : List Node → Type 0
AllNumbersFit [] = Unit {0}
AllNumbersFit (n ∷ ns) = NumbersFit n × AllNumbersFit ns
