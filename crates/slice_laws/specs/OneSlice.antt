-- What a slice is leaves no choice.
use Rattle.std.specs.Prelude.{◌≡◌}
use Rattle.flat_ir.specs.declared.names.FuncId.{FuncId}
use Rattle.flat_ir.specs.declared.names.Location.{Location}
use Rattle.flat_ir.specs.declared.program.ProgramData.{ProgramData}
use Rattle.flat_ir.specs.declared.residual.Residual.{Residual}
use Rattle.slices.specs.Nexts.{IsResidual}

-- two slices of a function for a location are one
abbrev pub SlicesAreOne : Type 0
SlicesAreOne = (p : ProgramData) (f : FuncId) (at' : Location) (one other : Residual) → IsResidual p f at' one → IsResidual p f at' other → one ≡ other
