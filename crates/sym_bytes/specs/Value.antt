-- Values of an exploration, with no table of terms in them.
use Rattle.terms.specs.Tree.{Tree}
use Rattle.flat_ir.specs.declared.nodes.RegType.{RegType}
use Rattle.sym_bytes.specs.declared.names.CallId.{CallId}
use Rattle.sym_bytes.specs.Pointers.{Pointer}

-- a number, a pointer, or what a skipped call will have returned, of that type
pub data SymValue : Type 0 where
  Int : Tree → SymValue
  Ptr : Pointer → SymValue
  Pending : CallId → RegType → SymValue
