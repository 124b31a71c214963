-- The graphs of the functions of a program.
use Rattle.std.specs.Prelude.{◌≡◌, ◌<◌, ◌+◌, ℕ, List, length, Some, slice_get}
use Rattle.control_closure.specs.declared.graph.Graph.{Graph}
use Rattle.flat_ir.specs.declared.program.ProgramData.{ProgramData}
use Rattle.slices.specs.Slice.{graph_of, end_of}
use Rattle.slicer.specs.Facts.{func}

-- the graph of function k, small enough that 32 bits number its nodes and its end
pub record IsGraphOf (p : ProgramData) (k : ℕ) (graph : Graph) : Type 0 where
  pub graph_is : graph.succ ≡ graph_of p (func k)
  pub small : end_of p (func k) + 1 < 4294967296

-- those of the first functions
pub record AreGraphs (p : ProgramData) (count : ℕ) (graphs : List Graph) : Type 0 where
  pub count_is : length graphs ≡ count
  pub each : (k : ℕ) (graph : Graph) → slice_get graphs k ≡ Some graph → IsGraphOf p k graph
