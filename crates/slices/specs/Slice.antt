-- The slice of a function for a location: the nodes that decide what a call of the function does there. It is a slice after
-- M. Weiser ("Program Slicing", IEEE Transactions on Software Engineering 10, 1984), by data flow through registers and memory
-- and by weak control closure, for a call and what it calls.
use Rattle.std.specs.Prelude.{◌≡◌, ◌↔◌, ◌⊎◌, ◌==◌, ◌||◌, ℕ, Bool, true, false, List, [], ◌∷◌, ◌++◌, length, map, Some}
use Rattle.std.specs.List.{Contains}
use Rattle.control_closure.specs.Met.{Parts}
use Rattle.flat_ir.specs.declared.names.FuncId.{FuncId}
use Rattle.flat_ir.specs.declared.names.NodeId.{NodeId}
use Rattle.flat_ir.specs.declared.names.RegId.{RegId}
use Rattle.flat_ir.specs.declared.names.Site.{Site}
use Rattle.flat_ir.specs.declared.names.Location.{Location}
use Rattle.flat_ir.specs.declared.names.Location.TheVariants as location
use Rattle.flat_ir.specs.declared.nodes.Operand.{Operand}
use Rattle.flat_ir.specs.declared.nodes.Node.{Node}
use Rattle.flat_ir.specs.declared.nodes.Node.TheVariants as node
use Rattle.flat_ir.specs.declared.program.ProgramData.{ProgramData}
use Rattle.flat_ir.specs.Machine.{node_at, nodes_of, func_at}
use Rattle.flat_ir.specs.Steps.{call_result}
use Rattle.flat_ir.specs.Whole.{successors_of}
use Rattle.points_to.specs.Asked.{holder_in}
use Rattle.points_to.specs.Points.{PointsTo}
use Rattle.points_to.specs.Within.{callee_of}
use Rattle.mod_ref.specs.Changes.{ChangesAt}
use Rattle.slices.specs.Nodes.{Reads, Defines, read_through, used_alive, reads_input, is_return}

-- f, and the functions that it may call
pub data Looks (p : ProgramData) (f : FuncId) : FuncId → Type 0 where
  itself : Looks p f f
  calls : (g : FuncId) (n : NodeId) (callee : FuncId) → Looks p f g → callee_of (node_at p g n) ≡ Some callee → Looks p f callee

-- what a slice collects: nodes that it retains and locations that it needs
pub data Item : Type 0 where
  Keep : FuncId → NodeId → Item
  Need : Location → Item

abbrev pub Items : Type 0
Items = Item → Bool

-- what the items of a round but the closing one give from a set, repeated: the location is needed, and where it is the result
-- the function's returns are retained; a node that changes a needed location; one that sets a register that a retained node
-- reads; the cells that a retained node reads; the lives of the objects that it accesses or frees; the input that it reads; a
-- call of a function with a retained node; a call, whose register a retained node reads, and the returns of its callee
pub data Grown (p : ProgramData) (f : FuncId) (at' : Location) (base : Items) : Item → Type 0 where
  before : (i : Item) → base i ≡ true → Grown p f at' base i
  asked : Grown p f at' base (Need at')
  returns : (n : NodeId) → at' ≡ location.Result → is_return (node_at p f n) ≡ true → Grown p f at' base (Keep f n)
  changes : (g : FuncId) (n : NodeId) (l : Location) → Looks p f g → ChangesAt p g n l → Grown p f at' base (Need l) → Grown p f at' base (Keep g n)
  defines : (g : FuncId) (n m : NodeId) (r : RegId) → Grown p f at' base (Keep g n) → Reads p g n r → Defines p g m r → Grown p f at' base (Keep g m)
  cells : (g : FuncId) (n : NodeId) (a : Operand) (s : Site) → Grown p f at' base (Keep g n) → read_through (node_at p g n) ≡ Some a →
      PointsTo p (holder_in g a) s → Grown p f at' base (Need (location.Cells s))
  lives : (g : FuncId) (n : NodeId) (a : Operand) (s : Site) → Grown p f at' base (Keep g n) → Contains (used_alive (node_at p g n)) a →
      PointsTo p (holder_in g a) s → Grown p f at' base (Need (location.Life s))
  input : (g : FuncId) (n : NodeId) → Grown p f at' base (Keep g n) → reads_input (node_at p g n) ≡ true → Grown p f at' base (Need location.Input)
  calls : (g : FuncId) (n : NodeId) (callee : FuncId) (m : NodeId) → Looks p f g → callee_of (node_at p g n) ≡ Some callee →
      Grown p f at' base (Keep callee m) → Grown p f at' base (Keep g n)
  results : (g : FuncId) (n m : NodeId) (callee : FuncId) (r : RegId) (k : NodeId) → Grown p f at' base (Keep g n) → Reads p g n r →
      callee_of (node_at p g m) ≡ Some callee → call_result (node_at p g m) ≡ Some r → is_return (node_at p callee k) ≡ true → Grown p f at' base (Keep callee k)

-- the number of a function's end, which stands behind its nodes
abbrev pub end_of : ProgramData → FuncId → ℕ
end_of p f = length (nodes_of (func_at p f))

-- where a node leads: a return leads to the end
abbrev pub leads_to : ℕ → Node → List ℕ
leads_to end (node.Ret value) = end ∷ []
leads_to end n = map (λ s. s.0) (successors_of n)

-- a function's nodes and, behind them, its end
abbrev pub graph_of : ProgramData → FuncId → List (List ℕ)
graph_of p f = map (leads_to (end_of p f)) (nodes_of (func_at p f)) ++ [] ∷ []

-- the end is retained
abbrev pub retained : ProgramData → FuncId → Items → ℕ → Bool
retained p f items n = (n == end_of p f) || items (Keep f (record { 0 = n }))

-- a node of a function that the slice looks at has two successors from which different retained nodes are met first
abbrev pub PartsIn : ProgramData → FuncId → Items → FuncId → NodeId → Type 0
PartsIn p f items g n = Looks p f g × Parts (graph_of p g) (retained p g items) n.0

abbrev pub IsGrown : ProgramData → FuncId → Location → Items → Items → Type 0
IsGrown p f at' old new = (i : Item) → (new i ≡ true) ↔ Grown p f at' old i

-- one closing round in each function
pub record IsClosingRound (p : ProgramData) (f : FuncId) (old new : Items) : Type 0 where
  pub nodes : (g : FuncId) (n : NodeId) → (new (Keep g n) ≡ true) ↔ ((old (Keep g n) ≡ true) ⊎ PartsIn p f old g n)
  pub needs : (l : Location) → new (Need l) ≡ old (Need l)

-- a closing round would add nothing
abbrev pub IsClosedSlice : ProgramData → FuncId → Items → Type 0
IsClosedSlice p f items = (g : FuncId) (n : NodeId) → retained p g items n.0 ≡ false → PartsIn p f items g n → ⊥

-- growing and closing rounds by turns, until a closing round would add nothing
pub data Slices (p : ProgramData) (f : FuncId) (at' : Location) : Items → Items → Type 0 where
  ends : (old new : Items) → IsGrown p f at' old new → IsClosedSlice p f new → Slices p f at' old new
  round : (old grown closed new : Items) → IsGrown p f at' old grown → IsClosingRound p f grown closed → Slices p f at' closed new → Slices p f at' old new

-- the slice of a function for a location
abbrev pub IsSlice : ProgramData → FuncId → Location → Items → Type 0
IsSlice p f at' items = Slices p f at' (λ i. false) items
