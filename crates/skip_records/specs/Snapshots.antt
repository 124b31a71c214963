-- What a state keeps of each call that it skipped.
use Rattle.std.specs.Prelude.{List, Option}
use Rattle.flat_ir.specs.declared.names.CallStep.{CallStep}
use Rattle.flat_ir.specs.declared.names.FuncId.{FuncId}
use Rattle.flat_ir.specs.declared.names.Location.{Location}
use Rattle.sym_bytes.specs.declared.names.CallId.{CallId}
use Rattle.sym_bytes.specs.Value.{SymValue}

-- A skipped call: its function, its arguments, the name of the frame that it would have made, and what of it is recovered: its
-- result, where that is known, and the locations of which its changes are.
pub record Snapshot : Type 0 where
  pub call : CallId
  pub func : FuncId
  pub args : List SymValue
  pub frame : List CallStep
  pub result : Option SymValue
  pub recovered : List Location
