-- What the values of a node's operands, and the type of the register that it sets, are where a typed frame stands at the node.
use Rattle.std.specs.Prelude.{◌≡◌, ◌≤◌, true, Option, Some, None}
use Rattle.bitnum.specs.Number.{Number}
use Rattle.checks.specs.Types.{resizes}
use Rattle.flat_ir.specs.declared.nodes.Node.{Node}
use Rattle.flat_ir.specs.declared.nodes.Node.TheVariants as node
use Rattle.flat_ir.specs.declared.nodes.Operand.{Operand}
use Rattle.flat_ir.specs.declared.nodes.RegType.{RegType}
use Rattle.flat_ir.specs.declared.nodes.RegType.TheVariants as type
use Rattle.flat_ir.specs.declared.program.Func.{Func}
use Rattle.flat_ir.specs.declared.program.ProgramData.{ProgramData}
use Rattle.flat_ir.specs.declared.values.ConcreteValue.{ConcreteValue}
use Rattle.flat_ir.specs.declared.values.ConcreteValue.TheVariants.{Int, Ptr}
use Rattle.flat_ir.specs.Machine.{Frame, type_at, value_in}
use Rattle.flat_ir.specs.Registers.{number, bytes_of_type, bytes_of_value}
use Rattle.flat_ir.specs.Steps.{width_of}
use Rattle.flat_ir.specs.Whole.{IsWidth}

-- the type of a function's result, if it has one
abbrev pub result_of : Option Func → Option RegType
result_of None = None
result_of (Some f) = f.result

-- the number of an operand in the frame
abbrev pub number_of : Frame → Operand → Number
number_of f a = number (value_in f a)

-- two numbers have one width
abbrev pub AreAlike : ConcreteValue → ConcreteValue → Type 0
AreAlike (Int a) (Int b) = a.width ≡ b.width
AreAlike (Int a) (Ptr b) = Unit {0}
AreAlike (Ptr a) b = Unit {0}

-- a type whose values have a byte at least
pub record TakesBytes (t : RegType) : Type 0 where
  pub width : IsWidth t
  pub some : 1 ≤ bytes_of_type t

-- a type of so many bits as a number may have
abbrev pub IsNumbers : RegType → Type 0
IsNumbers t = IsWidth (type.Int (width_of t))

-- Two numbers of an operation, and two that are compared, have one width; a cast's widths fit it; what is loaded or stored has
-- a byte at least.
abbrev pub Suits : ProgramData → Frame → Node → Type 0
Suits p f (node.Bin op a b result next) = (number_of f a).width ≡ (number_of f b).width
Suits p f (node.Cmp pr a b result next) = AreAlike (value_in f a) (value_in f b)
Suits p f (node.Cast op a result next) = IsNumbers (type_at p f.func result) × (resizes op (number_of f a).width (width_of (type_at p f.func result)) ≡ true)
Suits p f (node.Load pointer result next) = TakesBytes (type_at p f.func result)
Suits p f (node.Store value pointer next) = 1 ≤ bytes_of_value (value_in f value)
Suits p f _ = Unit {0}
