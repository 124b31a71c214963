-- The slice simulates its calls, by the law.
use Rattle.flat_ir.specs.declared.names.FuncId.{FuncId}
use Rattle.flat_ir.specs.declared.names.Location.{Location}
use Rattle.flat_ir.specs.declared.program.ProgramData.{ProgramData}
use Rattle.flat_ir.specs.declared.residual.Residual.{Residual}
use Rattle.flat_ir.specs.Whole.{IsWhole}
use Rattle.slices.specs.Nexts.{IsResidual}
use Rattle.slicer.specs.Simulating.{Simulates}
use Rattle.slice_laws.proofs.Following.{simulates}

pub simulated : (p : ProgramData) (f : FuncId) (at' : Location) (residual : Residual) → IsWhole p → IsResidual p f at' residual → Simulates p f at' residual
simulated p f at' residual whole is = record {
  items = is.items;
  ways = is.ways;
  kept = is.kept;
  simulates = simulates p f at' is.items is.ways whole is.slice is.nexts;
}
