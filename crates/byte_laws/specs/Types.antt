-- Values and bytes that have a type.
use Rattle.std.specs.Prelude.{ℕ, ◌≡◌, ◌*◌, List, [], ◌∷◌}
use Rattle.bitnum.specs.Number.{IsNumber}
use Rattle.flat_ir.specs.declared.nodes.RegType.{RegType}
use Rattle.flat_ir.specs.declared.nodes.RegType.TheVariants as type
use Rattle.flat_ir.specs.declared.values.ConcreteValue.{ConcreteValue}
use Rattle.flat_ir.specs.declared.values.ConcreteValue.TheVariants.{Int, Ptr}
use Rattle.sym_bytes.specs.Byte as byte
use Rattle.sym_bytes.specs.Byte.{SymByte}
use Rattle.sym_bytes.specs.Fitting.{IsByte}
use Rattle.sym_bytes.specs.Under.{Results, result_of}

-- the value is one of the type
abbrev pub IsOf : RegType → ConcreteValue → Type 0
IsOf (type.Int width) (Int n) = IsNumber n × (n.width ≡ width)
IsOf (type.Int width) (Ptr a) = ⊥
IsOf type.Ptr (Int n) = ⊥
IsOf type.Ptr (Ptr a) = Unit {0}

-- a value of the type has so many bytes, and no bit beside them
abbrev pub HasSize : RegType → ℕ → Type 0
HasSize (type.Int width) n = width ≡ 8 * n
HasSize type.Ptr n = n ≡ 8

-- each is a byte as memory holds it
abbrev pub AreBytes : List SymByte → Type 0
AreBytes [] = Unit {0}
AreBytes (b ∷ bs) = IsByte b × AreBytes bs

-- each call of whose result there is a byte returned a value of the type that the byte says
abbrev pub AreReturned : Results → List SymByte → Type 0
AreReturned results [] = Unit {0}
AreReturned results (byte.Int t ∷ bs) = AreReturned results bs
AreReturned results (byte.PtrByte p j ∷ bs) = AreReturned results bs
AreReturned results (byte.PendingByte c t j ∷ bs) = IsOf t (result_of results c) × AreReturned results bs
