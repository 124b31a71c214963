-- The bytes of a value, the lowest first (LLVM Language Reference, "Data Layout", little-endian). A pointer in memory is
-- eight bytes of that pointer, null too; a result that isn't known yet is bytes of that result.
use Rattle.std.specs.Prelude.{ℕ, List}
use Rattle.terms.specs.declared.term.Unary.TheVariants.{Byte}
use Rattle.terms.specs.Folding.{folded_one}
use Rattle.flat_ir.specs.Registers.{first_of}
use Rattle.sym_bytes.specs.Byte as byte
use Rattle.sym_bytes.specs.Byte.{SymByte}
use Rattle.sym_bytes.specs.Value as value
use Rattle.sym_bytes.specs.Value.{SymValue}

-- byte j of a value
abbrev pub byte_of : SymValue → ℕ → SymByte
byte_of (value.Int t) j = byte.Int (folded_one (Byte j) t)
byte_of (value.Ptr p) j = byte.PtrByte p j
byte_of (value.Pending c t) j = byte.PendingByte c t j

-- the bytes 0, 1 and so on of a value, so many of them
abbrev pub cut_value : SymValue → ℕ → List SymByte
cut_value v bytes = first_of bytes 0 (byte_of v)
