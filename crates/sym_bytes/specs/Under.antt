-- What symbolic values and bytes are under an input and the results of the skipped calls.
use Rattle.std.specs.Prelude.{ℕ, ◌-◌, List, Option, Some, None, slice_get}
use Rattle.terms.specs.Tree.{Tree}
use Rattle.terms.specs.Value.{value_of}
use Rattle.flat_ir.specs.declared.names.ObjectName.{ObjectName}
use Rattle.flat_ir.specs.declared.values.Address.{Address}
use Rattle.flat_ir.specs.declared.values.ConcreteByte.{ConcreteByte}
use Rattle.flat_ir.specs.declared.values.ConcreteByte.TheVariants as concrete
use Rattle.flat_ir.specs.declared.values.ConcreteValue.{ConcreteValue}
use Rattle.flat_ir.specs.declared.values.ConcreteValue.TheVariants.{Int, Ptr}
use Rattle.flat_ir.specs.Registers as registers
use Rattle.flat_ir.specs.Registers.{cut}
use Rattle.sym_bytes.specs.declared.names.Base.{Base}
use Rattle.sym_bytes.specs.declared.names.Base.TheVariants as base
use Rattle.sym_bytes.specs.declared.names.CallId.{CallId}
use Rattle.sym_bytes.specs.Byte as byte
use Rattle.sym_bytes.specs.Byte.{SymByte}
use Rattle.sym_bytes.specs.Pointers.{Pointer}
use Rattle.sym_bytes.specs.Value as value
use Rattle.sym_bytes.specs.Value.{SymValue}

-- what the skipped calls returned, the first one first
abbrev pub Results : Type 0
Results = List (Option ConcreteValue)

-- the number that a term is
abbrev pub bits_under : List ℕ → Tree → ℕ
bits_under input t = (value_of t input).bits

abbrev pub base_under : Base → Option ObjectName
base_under base.Null = None
base_under (base.Object x) = Some x

abbrev pub address_under : List ℕ → Pointer → Address
address_under input p = record { base = base_under p.base; offset = bits_under input p.offset }

abbrev pub returned : Option (Option ConcreteValue) → ConcreteValue
returned (Some (Some v)) = v
returned (Some None) = Ptr registers.null
returned None = Ptr registers.null

-- what the call returned; calls count from 1
abbrev pub result_of : Results → CallId → ConcreteValue
result_of results c = returned (slice_get results (c.0 - 1))

abbrev pub value_under : List ℕ → Results → SymValue → ConcreteValue
value_under input results (value.Int t) = Int (value_of t input)
value_under input results (value.Ptr p) = Ptr (address_under input p)
value_under input results (value.Pending c t) = result_of results c

abbrev pub byte_under : List ℕ → Results → SymByte → ConcreteByte
byte_under input results (byte.Int t) = concrete.Int (bits_under input t)
byte_under input results (byte.PtrByte p j) = concrete.PtrByte (address_under input p) j
byte_under input results (byte.PendingByte c t j) = cut (result_of results c) j
