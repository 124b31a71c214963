-- What contracts see of the code's values, bytes, entries and answers: the same, with no table of terms.
use Rattle.sym_bytes.specs.declared.kinds.ValueKind.{ValueKind}
use Rattle.sym_bytes.specs.declared.kinds.ValueKind.TheVariants as value_kind
use Rattle.sym_bytes.specs.declared.kinds.ByteKind.{ByteKind}
use Rattle.sym_bytes.specs.declared.kinds.ByteKind.TheVariants as byte_kind
use Rattle.sym_bytes.specs.Byte as byte
use Rattle.sym_bytes.specs.Byte.{SymByte}
use Rattle.sym_bytes.specs.Value as value
use Rattle.sym_bytes.specs.Value.{SymValue}

abbrev pub value_of_kind : {H : Type 0} → ValueKind H → SymValue
value_of_kind (value_kind.Int t) = value.Int t
value_of_kind (value_kind.Ptr p) = value.Ptr p
value_of_kind (value_kind.Pending c t) = value.Pending c t

abbrev pub byte_of_kind : {H : Type 0} → ByteKind H → SymByte
byte_of_kind (byte_kind.Int t) = byte.Int t
byte_of_kind (byte_kind.PtrByte p j) = byte.PtrByte p j
byte_of_kind (byte_kind.PendingByte c t j) = byte.PendingByte c t j
