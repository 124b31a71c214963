-- Types of registers that numbers can have.
use Rattle.flat_ir.specs.declared.nodes.RegType.{RegType}
use Rattle.flat_ir.specs.declared.nodes.RegType.TheVariants as type
use Rattle.bitnum.specs.Number.{IsWidth}

-- a number of the type has 1 to 64 bits
abbrev pub HasWidth : RegType → Type 0
HasWidth (type.Int width) = IsWidth width
HasWidth type.Ptr = Unit {0}
