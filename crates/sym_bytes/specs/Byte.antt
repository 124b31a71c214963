-- Bytes of an exploration, with no table of terms in them.
use Rattle.std.specs.Prelude.{ℕ}
use Rattle.terms.specs.Tree.{Tree}
use Rattle.flat_ir.specs.declared.nodes.RegType.{RegType}
use Rattle.sym_bytes.specs.declared.names.CallId.{CallId}
use Rattle.sym_bytes.specs.Pointers.{Pointer}

-- a number of 8 bits, byte j of a pointer, or byte j of what a skipped call will have returned
pub data SymByte : Type 0 where
  Int : Tree → SymByte
  PtrByte : Pointer → ℕ → SymByte
  PendingByte : CallId → RegType → ℕ → SymByte
