-- Nodes of edges, of which only a part is at hand.
use Rattle.std.specs.Prelude.{ℕ, List, map}
use Rattle.std.specs.List.{flat_map}
use Rattle.flat_ir.specs.declared.nodes.MoveSet.{MoveSet}
use Rattle.flat_ir.specs.declared.nodes.Node.{Node}
use Rattle.ir_tree.specs.declared.types.Name.{Name}
use Rattle.ir_tree.specs.declared.instructions.Phi.{Phi}
use Rattle.ir_tree.specs.declared.module.FunctionDefinition.{FunctionDefinition}
use Rattle.ir_tree.specs.declared.module.IrTree.{IrTree}
use Rattle.ir_programs.specs.Flow.{Edge, edge_if, phis_of, value_from}
use Rattle.ir_programs.specs.Nodes.{set_to, edge_node}

-- what phis have where control comes from a label
abbrev pub edge_sets_of : IrTree → FunctionDefinition → List ℕ → List Phi → List MoveSet
edge_sets_of t f source phis = flat_map (λ p. set_to t f p (value_from source p.incoming)) phis

-- the node of the edge from a label to a label, if it has one
abbrev pub target_node : IrTree → FunctionDefinition → List ℕ → Name → List Node
target_node t f source to = map (edge_node t f) (edge_if (phis_of f to.text) (record { source = source; target = to.text }))

-- the nodes of the edges from a label to labels
abbrev pub target_nodes : IrTree → FunctionDefinition → List ℕ → List Name → List Node
target_nodes t f source names = flat_map (target_node t f source) names

-- the edges from a label to labels
abbrev pub edges_to : FunctionDefinition → List ℕ → List Name → List Edge
edges_to f source names = flat_map (λ to. edge_if (phis_of f to.text) (record { source = source; target = to.text })) names
