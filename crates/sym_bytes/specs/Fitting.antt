-- The widths in values, bytes and entries: an offset, a size and an address have 64 bits, a byte has 8, and a byte of a
-- result is one of those that the result has.
use Rattle.std.specs.Prelude.{ℕ, ◌≡◌, ◌<◌, ◌≤◌, ◌*◌, List, [], ◌∷◌, length}
use Rattle.terms.specs.Tree.{Tree, IsTree, width_of}
use Rattle.flat_ir.specs.Registers.{bytes_of_type}
use Rattle.sym_bytes.specs.Byte as byte
use Rattle.sym_bytes.specs.Byte.{SymByte}
use Rattle.sym_bytes.specs.Entry as entry
use Rattle.sym_bytes.specs.Entry.{Entry}
use Rattle.sym_bytes.specs.Pointers.{Pointer}
use Rattle.sym_bytes.specs.Value as value
use Rattle.sym_bytes.specs.Value.{SymValue}

-- a term of 64 bits
abbrev pub IsWide : Tree → Type 0
IsWide t = IsTree t × (width_of t ≡ 64)

-- a byte as memory holds it
abbrev pub IsByte : SymByte → Type 0
IsByte (byte.Int t) = IsTree t × (width_of t ≡ 8)
IsByte (byte.PtrByte p j) = IsWide p.offset
IsByte (byte.PendingByte c t j) = j < bytes_of_type t

-- a value as a register holds it
abbrev pub IsValue : SymValue → Type 0
IsValue (value.Int t) = IsTree t
IsValue (value.Ptr p) = IsWide p.offset
IsValue (value.Pending c t) = Unit {0}

-- the value has so many bytes
abbrev pub HasBytes : SymValue → ℕ → Type 0
HasBytes (value.Int t) n = width_of t ≡ 8 * n
HasBytes (value.Ptr p) n = n ≡ 8
HasBytes (value.Pending c t) n = n ≡ bytes_of_type t

-- a write is at an offset of 64 bits, and of at most 8 bytes
abbrev pub IsEntry : Entry → Type 0
IsEntry (entry.Write x offset bytes) = IsWide offset × (length bytes ≤ 8)
IsEntry (entry.Alloc x size) = IsWide size
IsEntry (entry.Free x) = Unit {0}
IsEntry (entry.Put t) = IsTree t × (width_of t ≡ 8)
IsEntry entry.Get = Unit {0}

abbrev pub AreEntries : List Entry → Type 0
AreEntries [] = Unit {0}
AreEntries (e ∷ es) = IsEntry e × AreEntries es
