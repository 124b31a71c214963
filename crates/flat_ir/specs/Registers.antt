-- Values, addresses and the bytes of a value. A value in memory is its bytes, the lowest first (LLVM Language Reference,
-- "Data Layout", little-endian; "Memory Access and Addressing Operations"). A pointer is an object, or none, and an offset
-- of 64 bits ("Pointer Type"): null is no object and offset 0.
use Rattle.std.specs.Prelude.{ℕ, ◌+◌, ◌*◌, ◌/◌, ◌%◌, ◌^◌, zero, suc, Bool, true, false, ◌&&◌, ◌==◌, List, [], ◌∷◌, Option, None, Some, if◌then◌else◌}
use Rattle.bitnum.specs.Number.{Number}
use Rattle.flat_ir.specs.declared.names.ObjectName.{ObjectName}
use Rattle.flat_ir.specs.declared.nodes.RegType.{RegType}
use Rattle.flat_ir.specs.declared.nodes.RegType.TheVariants as type
use Rattle.flat_ir.specs.declared.values.Address.{Address}
use Rattle.flat_ir.specs.declared.values.ConcreteByte.{ConcreteByte}
use Rattle.flat_ir.specs.declared.values.ConcreteByte.TheVariants as byte
use Rattle.flat_ir.specs.declared.values.ConcreteValue.{ConcreteValue}
use Rattle.flat_ir.specs.declared.values.ConcreteValue.TheVariants.{Int, Ptr}
use Rattle.flat_ir.specs.History.{same_object}

-- the number of so many bits
abbrev pub int : ℕ → ℕ → ConcreteValue
int width bits = Int (record { width = width; bits = bits })

abbrev pub null : Address
null = record { base = None; offset = 0 }

-- the number of a value; a checked program asks for none of a pointer
abbrev pub number : ConcreteValue → Number
number (Int n) = n
number (Ptr a) = record { width = 64; bits = 0 }

-- the address of a value; a checked program asks for none of a number
abbrev pub address : ConcreteValue → Address
address (Int n) = null
address (Ptr a) = a

-- the two pointers point into one object, or neither into any
abbrev pub same_base : Option ObjectName → Option ObjectName → Bool
same_base None None = true
same_base None (Some y) = false
same_base (Some x) None = false
same_base (Some x) (Some y) = same_object x y

-- the two pointers are equal; pointers into different objects never are
abbrev pub same_address : Address → Address → Bool
same_address a b = same_base a.base b.base && (a.offset == b.offset)

-- what a register of a type holds before it is set
abbrev pub zero_of : RegType → ConcreteValue
zero_of (type.Int width) = int width 0
zero_of type.Ptr = Ptr null

-- how many bytes a value of a type takes in memory
abbrev pub bytes_of_type : RegType → ℕ
bytes_of_type (type.Int width) = width / 8
bytes_of_type type.Ptr = 8

abbrev pub bytes_of_value : ConcreteValue → ℕ
bytes_of_value (Int n) = n.width / 8
bytes_of_value (Ptr a) = 8

-- byte j of a value, the lowest first
abbrev pub cut : ConcreteValue → ℕ → ConcreteByte
cut (Int n) j = byte.Int ((n.bits / 2 ^ (8 * j)) % 256)
cut (Ptr a) j = byte.PtrByte a j

-- the number that some bytes make, the lowest first, if all are integers
abbrev pub joined_number : List ConcreteByte → Option ℕ
joined_number [] = Some 0
joined_number (byte.PtrByte a j ∷ bs) = None
joined_number (byte.Int b ∷ bs) = elim (joined_number bs) [ None ↦ None | Some n ↦ Some (b + 256 * n) ]

-- the bytes are bytes k and on of one pointer
abbrev pub are_bytes_of : Address → ℕ → List ConcreteByte → Bool
are_bytes_of a k [] = true
are_bytes_of a k (byte.Int b ∷ bs) = false
are_bytes_of a k (byte.PtrByte b j ∷ bs) = same_address a b && ((j == k) && are_bytes_of a (k + 1) bs)

-- bytes that make the number 0 make null
abbrev pub null_if_zero : Option ℕ → Option ConcreteValue
null_if_zero None = None
null_if_zero (Some n) = if n == 0 then Some (Ptr null) else None

-- the pointer that some bytes make: all of one pointer in their order, or all 0
abbrev pub joined_pointer : List ConcreteByte → Option ConcreteValue
joined_pointer [] = None
joined_pointer (byte.Int b ∷ bs) = null_if_zero (joined_number (byte.Int b ∷ bs))
joined_pointer (byte.PtrByte a j ∷ bs) = if are_bytes_of a 0 (byte.PtrByte a j ∷ bs) then Some (Ptr a) else None

abbrev pub number_of_width : ℕ → Option ℕ → Option ConcreteValue
number_of_width width None = None
number_of_width width (Some n) = Some (int width n)

-- the value of a type that some bytes make, unless they are mixed
abbrev pub joined : RegType → List ConcreteByte → Option ConcreteValue
joined (type.Int width) bs = number_of_width width (joined_number bs)
joined type.Ptr bs = joined_pointer bs

-- f 0, f 1 and so on, n of them
abbrev pub first_of : {A : Type 0} → ℕ → ℕ → (ℕ → A) → List A
first_of zero k f = []
first_of (suc n) k f = f k ∷ first_of n (k + 1) f
