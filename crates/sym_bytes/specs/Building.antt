-- Numbers and sums of terms that values and memory are made of.
use Rattle.std.specs.Prelude.{ℕ, ◌==◌, Bool, true, false}
use Rattle.bitnum.specs.declared.BinOp.TheVariants as op
use Rattle.terms.specs.Tree.{Tree, constant}
use Rattle.terms.specs.declared.term.Binary.TheVariants.{Bin, Eq}
use Rattle.terms.specs.Folding.{folded_two}
use Rattle.flat_ir.specs.declared.names.ObjectName.{ObjectName}
use Rattle.flat_ir.specs.declared.nodes.RegType.{RegType}
use Rattle.flat_ir.specs.declared.nodes.RegType.TheVariants as type
use Rattle.flat_ir.specs.History.{same_object}
use Rattle.sym_bytes.specs.declared.names.Base.{Base}
use Rattle.sym_bytes.specs.declared.names.Base.TheVariants.{Null, Object}
use Rattle.sym_bytes.specs.declared.names.CallId.{CallId}
use Rattle.sym_bytes.specs.Value as value
use Rattle.sym_bytes.specs.Value.{SymValue}

-- the number of so many bits
abbrev pub number : ℕ → ℕ → Tree
number width bits = constant (record { width = width; bits = bits })

-- an offset, a size or an address: a number of 64 bits
abbrev pub wide : ℕ → Tree
wide n = number 64 n

-- one bit, whether two terms are equal
abbrev pub equal : Tree → Tree → Tree
equal a b = folded_two Eq a b

-- the offset that lies j behind an offset
abbrev pub behind : Tree → ℕ → Tree
behind offset j = folded_two (Bin op.Add) offset (wide j)

abbrev pub null : SymValue
null = value.Ptr (record { base = Null; offset = wide 0 })

abbrev pub pointer_to : ObjectName → ℕ → SymValue
pointer_to x offset = value.Ptr (record { base = Object x; offset = wide offset })

abbrev pub same_call : CallId → CallId → Bool
same_call a b = a.0 == b.0

abbrev pub same_type : RegType → RegType → Bool
same_type (type.Int v) (type.Int w) = v == w
same_type (type.Int v) type.Ptr = false
same_type type.Ptr (type.Int w) = false
same_type type.Ptr type.Ptr = true

-- the two point into one object, or neither into any
abbrev pub same_base : Base → Base → Bool
same_base Null Null = true
same_base Null (Object y) = false
same_base (Object x) Null = false
same_base (Object x) (Object y) = same_object x y
