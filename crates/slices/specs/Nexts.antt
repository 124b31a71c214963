-- Where a run that executes retained nodes alone goes on.
use Rattle.std.specs.Prelude.{◌≡◌, ◌<◌, ℕ, Bool, true, false, List, map, length, Option, None, Some, slice_get}
use Rattle.control_closure.specs.Met.{Meets}
use Rattle.flat_ir.specs.declared.names.FuncId.{FuncId}
use Rattle.flat_ir.specs.declared.names.NodeId.{NodeId}
use Rattle.flat_ir.specs.declared.names.Location.{Location}
use Rattle.flat_ir.specs.declared.program.ProgramData.{ProgramData}
use Rattle.flat_ir.specs.declared.residual.Kept.{Kept}
use Rattle.flat_ir.specs.declared.residual.Next.{Next}
use Rattle.flat_ir.specs.declared.residual.Next.TheVariants as next
use Rattle.flat_ir.specs.declared.residual.Residual.{Residual}
use Rattle.flat_ir.specs.Machine.{node_at}
use Rattle.slices.specs.Slice.{Items, Keep, IsSlice, graph_of, retained, end_of, leads_to}

-- where a run goes on that comes to a node of a function, or to the function's end
abbrev pub Ways : Type 0
Ways = FuncId → NodeId → Next

-- it is what is met first of the retained nodes and the end
abbrev pub IsMetFirst : ProgramData → Items → FuncId → NodeId → Next → Type 0
IsMetFirst p items f n (next.Node m) = (m.0 < end_of p f) × Meets (graph_of p f) (retained p f items) n.0 m.0
IsMetFirst p items f n next.End = Meets (graph_of p f) (retained p f items) n.0 (end_of p f)
IsMetFirst p items f n next.Never = (m : ℕ) → Meets (graph_of p f) (retained p f items) n.0 m → ⊥

abbrev pub AreNexts : ProgramData → Items → Ways → Type 0
AreNexts p items ways = (f : FuncId) (n : NodeId) → IsMetFirst p items f n (ways f n)

-- where the successors of a node lead, in their order; that of a return is the end
abbrev pub nexts_of : ProgramData → Ways → FuncId → NodeId → List Next
nexts_of p ways f n = map (λ k. ways f (record { 0 = k })) (leads_to (end_of p f) (node_at p f n))

abbrev pub nexts_if : Bool → List Next → Option (List Next)
nexts_if true nexts = Some nexts
nexts_if false nexts = None

-- what is left of a function: where its first node leads, and the nexts of each retained node
pub record IsKept (p : ProgramData) (items : Items) (ways : Ways) (f : FuncId) (kept : Kept) : Type 0 where
  pub start : kept.start ≡ ways f (record { 0 = 0 })
  pub count : length kept.nexts ≡ end_of p f
  pub nexts : (n : NodeId) → n.0 < end_of p f → slice_get kept.nexts n.0 ≡ Some (nexts_if (items (Keep f n)) (nexts_of p ways f n))

-- what is left of a program by a slice
pub record AreKept (p : ProgramData) (items : Items) (ways : Ways) (residual : Residual) : Type 0 where
  pub count : length residual.funcs ≡ length p.funcs
  pub each : (f : FuncId) (kept : Kept) → slice_get residual.funcs f.0 ≡ Some kept → IsKept p items ways f kept

-- it is the slice of a function for a location
pub record IsResidual (p : ProgramData) (f : FuncId) (at' : Location) (residual : Residual) : Type 0 where
  pub items : Items
  pub slice : IsSlice p f at' items
  pub ways : Ways
  pub nexts : AreNexts p items ways
  pub kept : AreKept p items ways residual
