-- What a path did to memory, input and output, as changes of terms.
use Rattle.std.specs.Prelude.{List}
use Rattle.terms.specs.Tree.{Tree}
use Rattle.flat_ir.specs.declared.names.ObjectName.{ObjectName}
use Rattle.sym_bytes.specs.Byte.{SymByte}

-- bytes are written from an offset of an object on, the lowest first; an object of a size is made; an object ends; a byte
-- is written out; a byte of the input is read
pub data Entry : Type 0 where
  Write : ObjectName → Tree → List SymByte → Entry
  Alloc : ObjectName → Tree → Entry
  Free : ObjectName → Entry
  Put : Tree → Entry
  Get : Entry
