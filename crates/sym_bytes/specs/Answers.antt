-- What is asked of symbolic values and memory, and what is answered, with no table of terms in them.
use Rattle.std.specs.Prelude.{ℕ, List}
use Rattle.terms.specs.Tree.{Tree}
use Rattle.flat_ir.specs.declared.names.ObjectName.{ObjectName}
use Rattle.sym_bytes.specs.declared.names.CallId.{CallId}
use Rattle.sym_bytes.specs.Byte.{SymByte}
use Rattle.sym_bytes.specs.Value.{SymValue}

-- what some bytes make: a value; what the results of these calls will decide; the value where a test holds, and else a
-- mixture; a mixture of bytes that makes no value
pub data Join : Type 0 where
  Value : SymValue → Join
  Needs : List CallId → Join
  Test : Tree → SymValue → Join
  Mixed : Join

-- so many bytes of an object from an offset on; whether an object lives; how much of the input was read; what was written
-- out
pub data Want : Type 0 where
  Bytes : ObjectName → Tree → ℕ → Want
  Life : ObjectName → Want
  Input : Want
  Output : Want

-- a byte that was read, or an equality of offsets that decides which byte it is
pub data Read : Type 0 where
  Byte : SymByte → Read
  Undecided : Tree → Read

-- an object lives and has this size, or doesn't live
pub data Living : Type 0 where
  Alive : Tree → Living
  Dead : Living
