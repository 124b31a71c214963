-- What a slice has, and where its residual run goes.
use Rattle.std.specs.Prelude.{◌≡◌, ◌<◌, ℕ, true, Some}
use Rattle.std.specs.List.{Contains}
use Rattle.control_closure.specs.Met.{Meets}
use Rattle.flat_ir.specs.declared.names.FuncId.{FuncId}
use Rattle.flat_ir.specs.declared.names.NodeId.{NodeId}
use Rattle.flat_ir.specs.declared.names.RegId.{RegId}
use Rattle.flat_ir.specs.declared.names.Site.{Site}
use Rattle.flat_ir.specs.declared.names.Location.{Location}
use Rattle.flat_ir.specs.declared.names.Location.TheVariants as location
use Rattle.flat_ir.specs.declared.nodes.Operand.{Operand}
use Rattle.flat_ir.specs.declared.program.ProgramData.{ProgramData}
use Rattle.flat_ir.specs.declared.residual.Next.TheVariants as next
use Rattle.flat_ir.specs.Machine.{node_at}
use Rattle.flat_ir.specs.Steps.{call_result}
use Rattle.points_to.specs.Asked.{holder_in}
use Rattle.points_to.specs.Points.{PointsTo}
use Rattle.points_to.specs.Within.{callee_of}
use Rattle.mod_ref.specs.Changes.{ChangesAt}
use Rattle.slices.specs.Nodes.{Reads, Defines, read_through, used_alive, reads_input, is_return}
use Rattle.slices.specs.Slice.{Items, Keep, Need, Looks, IsSlice, graph_of, retained, end_of}
use Rattle.slices.specs.Nexts.{Ways, AreNexts}

-- each rule holds of the set, and from each node at most one retained node, or the end, is met first
pub record SliceFacts (p : ProgramData) (f : FuncId) (at' : Location) (items : Items) : Type 0 where
  pub asked : items (Need at') ≡ true
  pub returns : (n : NodeId) → at' ≡ location.Result → is_return (node_at p f n) ≡ true → items (Keep f n) ≡ true
  pub changes : (g : FuncId) (n : NodeId) (l : Location) → Looks p f g → ChangesAt p g n l → items (Need l) ≡ true → items (Keep g n) ≡ true
  pub defines : (g : FuncId) (n m : NodeId) (r : RegId) → items (Keep g n) ≡ true → Reads p g n r → Defines p g m r → items (Keep g m) ≡ true
  pub cells : (g : FuncId) (n : NodeId) (a : Operand) (s : Site) → items (Keep g n) ≡ true → read_through (node_at p g n) ≡ Some a →
      PointsTo p (holder_in g a) s → items (Need (location.Cells s)) ≡ true
  pub lives : (g : FuncId) (n : NodeId) (a : Operand) (s : Site) → items (Keep g n) ≡ true → Contains (used_alive (node_at p g n)) a →
      PointsTo p (holder_in g a) s → items (Need (location.Life s)) ≡ true
  pub input : (g : FuncId) (n : NodeId) → items (Keep g n) ≡ true → reads_input (node_at p g n) ≡ true → items (Need location.Input) ≡ true
  pub calls : (g : FuncId) (n : NodeId) (callee : FuncId) (m : NodeId) → Looks p f g → callee_of (node_at p g n) ≡ Some callee →
      items (Keep callee m) ≡ true → items (Keep g n) ≡ true
  pub results : (g : FuncId) (n m : NodeId) (callee : FuncId) (r : RegId) (k : NodeId) → items (Keep g n) ≡ true → Reads p g n r →
      callee_of (node_at p g m) ≡ Some callee → call_result (node_at p g m) ≡ Some r → is_return (node_at p callee k) ≡ true → items (Keep callee k) ≡ true
  pub one_met : (g : FuncId) → Looks p f g → (n a b : ℕ) → Meets (graph_of p g) (retained p g items) n a → Meets (graph_of p g) (retained p g items) n b → a ≡ b

-- the residual run goes where the whole run comes first
pub record GoesWhereMet (p : ProgramData) (f : FuncId) (items : Items) (ways : Ways) : Type 0 where
  pub node : (g : FuncId) → Looks p f g → (n m : NodeId) → m.0 < end_of p g → Meets (graph_of p g) (retained p g items) n.0 m.0 → ways g n ≡ next.Node m
  pub end : (g : FuncId) → Looks p f g → (n : NodeId) → Meets (graph_of p g) (retained p g items) n.0 (end_of p g) → ways g n ≡ next.End

abbrev pub SlicesHaveFacts : Type 0
SlicesHaveFacts = (p : ProgramData) (f : FuncId) (at' : Location) (items : Items) → IsSlice p f at' items → SliceFacts p f at' items

abbrev pub ResidualRunsGoWhereMet : Type 0
ResidualRunsGoWhereMet = (p : ProgramData) (f : FuncId) (at' : Location) (items : Items) → IsSlice p f at' items →
    (ways : Ways) → AreNexts p items ways → GoesWhereMet p f items ways
