-- The numbers that stand in a program fit: each has 1 to 64 bits and is below 2 to its width, each byte is below 256, and each
-- offset, size and place of a field or an element is below 2 ^ 64 (LLVM Language Reference, "Integer Type"; "Pointer Type", at
-- 64 bits; "getelementptr Instruction"; "alloca Instruction"; "switch Instruction").
use Rattle.std.specs.Prelude.{ℕ, ◌<◌, ◌^◌, List, [], ◌∷◌, All}
use Rattle.bitnum.specs.Number.{IsNumber}
use Rattle.flat_ir.specs.declared.nodes.GepPart.{GepPart}
use Rattle.flat_ir.specs.declared.nodes.GepPart.TheVariants.{Field, Index}
use Rattle.flat_ir.specs.declared.nodes.Node.{Node}
use Rattle.flat_ir.specs.declared.nodes.Node.TheVariants as node
use Rattle.flat_ir.specs.declared.nodes.Operand.{Operand}
use Rattle.flat_ir.specs.declared.nodes.Operand.TheVariants as operand
use Rattle.flat_ir.specs.declared.nodes.SwitchCase.{SwitchCase}
use Rattle.flat_ir.specs.declared.program.InitByte.{InitByte}
use Rattle.flat_ir.specs.declared.program.InitByte.TheVariants as init
use Rattle.flat_ir.specs.declared.program.ProgramData.{ProgramData}
use Rattle.flat_ir.specs.Whole.{operands_of}

-- what is written as an operand
abbrev pub OperandFits : Operand → Type 0
OperandFits (operand.Reg r) = Unit {0}
OperandFits (operand.Int n) = IsNumber n
OperandFits operand.Null = Unit {0}
OperandFits (operand.Global g offset) = offset < 2 ^ 64

abbrev pub OperandsFit : List Operand → Type 0
OperandsFit [] = Unit {0}
OperandsFit (a ∷ as') = OperandFits a × OperandsFit as'

-- the place of a field, the size of an element
abbrev pub PartFits : GepPart → Type 0
PartFits (Field by) = by < 2 ^ 64
PartFits (Index scale index) = scale < 2 ^ 64

abbrev pub PartsFit : List GepPart → Type 0
PartsFit [] = Unit {0}
PartsFit (part ∷ parts) = PartFits part × PartsFit parts

abbrev pub CasesFit : List SwitchCase → Type 0
CasesFit [] = Unit {0}
CasesFit (c ∷ cs) = IsNumber c.number × CasesFit cs

-- what stands in a node beside its operands
abbrev pub OthersFit : Node → Type 0
OthersFit (node.Gep base parts result next) = PartsFit parts
OthersFit (node.Alloca size result next) = size < 2 ^ 64
OthersFit (node.Switch value cases otherwise) = CasesFit cases
OthersFit _ = Unit {0}

pub record NodeFits (n : Node) : Type 0 where
  pub operands : OperandsFit (operands_of n)
  pub others : OthersFit n

-- what is written as an initial byte: a byte, or one of the eight of an address
abbrev pub InitFits : InitByte → Type 0
InitFits (init.Int b) = b < 256
InitFits (init.PtrByte g offset j) = (offset < 2 ^ 64) × (j < 8)

abbrev pub InitsFit : List InitByte → Type 0
InitsFit [] = Unit {0}
InitsFit (b ∷ bs) = InitFits b × InitsFit bs

pub record NumbersFit (p : ProgramData) : Type 0 where
  pub nodes : All (λ f. All NodeFits f.nodes) p.funcs
  pub globals : All (λ g. InitsFit g.init) p.globals
