-- Numbers that fit, in the states of a run: each has 1 to 64 bits and is below 2 to its width, each byte is below 256, and each
-- offset below 2 ^ 64 (LLVM Language Reference, "Integer Type"; "Pointer Type", at 64 bits).
use Rattle.std.specs.Prelude.{◌<◌, ◌^◌, List, [], ◌∷◌, All}
use Rattle.std.specs.List.{AllByRecursion as Each}
use Rattle.bitnum.specs.Number.{IsNumber}
use Rattle.flat_ir.specs.declared.nodes.Operand.{Operand}
use Rattle.flat_ir.specs.declared.nodes.Operand.TheVariants as operand
use Rattle.flat_ir.specs.declared.program.InitByte.{InitByte}
use Rattle.flat_ir.specs.declared.program.InitByte.TheVariants as init
use Rattle.flat_ir.specs.declared.program.ProgramData.{ProgramData}
use Rattle.flat_ir.specs.declared.values.ConcreteByte.{ConcreteByte}
use Rattle.flat_ir.specs.declared.values.ConcreteByte.TheVariants as byte
use Rattle.flat_ir.specs.declared.values.ConcreteValue.{ConcreteValue}
use Rattle.flat_ir.specs.declared.values.ConcreteValue.TheVariants.{Int, Ptr}
use Rattle.flat_ir.specs.History.{History, Write, Alloc, Free, Get, Put}
use Rattle.flat_ir.specs.Machine.{Frame, State, Run, On, Over}
use Rattle.flat_ir.specs.Whole.{operands_of}

-- a number that is below 2 to its width, or an address whose offset has 64 bits
abbrev pub Fits : ConcreteValue → Type 0
Fits (Int n) = IsNumber n
Fits (Ptr a) = a.offset < 2 ^ 64

-- a number of 8 bits, or one of the eight bytes of such an address
abbrev pub FitsByte : ConcreteByte → Type 0
FitsByte (byte.Int b) = b < 256
FitsByte (byte.PtrByte a j) = (a.offset < 2 ^ 64) × (j < 8)

-- what is written as an operand fits
abbrev pub OperandFits : Operand → Type 0
OperandFits (operand.Reg r) = Unit {0}
OperandFits (operand.Int n) = IsNumber n
OperandFits operand.Null = Unit {0}
OperandFits (operand.Global g offset) = offset < 2 ^ 64

-- what is written as an initial byte fits
abbrev pub InitFits : InitByte → Type 0
InitFits (init.Int b) = b < 256
InitFits (init.PtrByte g offset j) = offset < 2 ^ 64

-- each number that stands in the program fits
pub record NumbersFit (p : ProgramData) : Type 0 where
  pub nodes : All (λ f. All (λ n. All OperandFits (operands_of n)) f.nodes) p.funcs
  pub globals : All (λ g. All InitFits g.init) p.globals

-- each register of the frame holds a value that fits
abbrev pub HoldsFitting : Frame → Type 0
HoldsFitting f = Each Fits f.regs

-- each byte that was written fits
abbrev pub BytesFit : History → Type 0
BytesFit [] = Unit {0}
BytesFit (Write x k b ∷ h) = FitsByte b × BytesFit h
BytesFit (Alloc x size ∷ h) = BytesFit h
BytesFit (Free x ∷ h) = BytesFit h
BytesFit (Get ∷ h) = BytesFit h
BytesFit (Put b ∷ h) = BytesFit h

-- so it is with a frame, those that called it, and the history
pub record AreFitting (f : Frame) (fs : List Frame) (h : History) : Type 0 where
  pub frame : HoldsFitting f
  pub callers : Each HoldsFitting fs
  pub bytes : BytesFit h

-- all values and bytes of the state fit
abbrev pub IsFitting : State → Type 0
IsFitting s = AreFitting s.frame s.callers s.history

-- where the run goes on, all of its state fits
abbrev pub RunIsFitting : Run → Type 0
RunIsFitting (On s) = IsFitting s
RunIsFitting (Over e s) = Unit {0}
