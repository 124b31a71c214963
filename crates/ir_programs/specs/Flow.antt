-- Blocks and edges by the numbers of nodes (Language Reference, "Functions" and "phi Instruction"). Nodes are numbered in the order of the text, and a phi is no node: a block's
-- nodes are its instructions and its terminator. Behind all others stands one node for each edge into a block with phis, in the order of terminators and of their successors.
use Rattle.std.specs.Prelude.{ℕ, ◌+◌, if◌then◌else◌, List, [], ◌∷◌, length, Option, Some, None}
use Rattle.std.specs.List.{flat_map}
use Rattle.flat_ir.specs.declared.names.NodeId.{NodeId}
use Rattle.ir_tree.specs.Texts.{same}
use Rattle.ir_tree.specs.declared.types.Name.{Name}
use Rattle.ir_tree.specs.declared.constants.Value.{Value}
use Rattle.ir_tree.specs.declared.instructions.Block.{Block}
use Rattle.ir_tree.specs.declared.instructions.Incoming.{Incoming}
use Rattle.ir_tree.specs.declared.instructions.Phi.{Phi}
use Rattle.ir_tree.specs.declared.module.FunctionDefinition.{FunctionDefinition}
use Rattle.ir_programs.specs.Locals.{label_of}
use Rattle.ir_programs.specs.Parts.{targets}

abbrev pub at : ℕ → NodeId
at n = record { 0 = n }

-- ---- blocks

abbrev pub size_of_block : Block → ℕ
size_of_block b = length b.instructions + 1

-- how many nodes the blocks have
abbrev pub node_count : List Block → ℕ
node_count [] = 0
node_count (b ∷ bs) = size_of_block b + node_count bs

-- the first node of the block with this label, where the first of them begins at a number
abbrev pub start_among : ℕ → List ℕ → List Block → ℕ
start_among n name [] = 0
start_among n name (b ∷ bs) = if same (label_of b) name then n else start_among (n + size_of_block b) name bs

abbrev pub start_of : FunctionDefinition → List ℕ → ℕ
start_of f name = start_among 0 name f.blocks

abbrev pub phis_among : List ℕ → List Block → List Phi
phis_among name [] = []
phis_among name (b ∷ bs) = if same (label_of b) name then b.phis else phis_among name bs

-- the phis of the block with this label
abbrev pub phis_of : FunctionDefinition → List ℕ → List Phi
phis_of f name = phis_among name f.blocks

-- ---- edges

-- from a block to a block, by their labels
pub record Edge : Type 0 where
  pub source : List ℕ
  pub target : List ℕ

abbrev pub edge_if : List Phi → Edge → List Edge
edge_if [] e = []
edge_if (p ∷ ps) e = e ∷ []

-- the edges from a block into blocks with phis, in the order of the successors
abbrev pub block_edges : FunctionDefinition → Block → List Edge
block_edges f b = flat_map (λ to. edge_if (phis_of f to.text) (record { source = label_of b; target = to.text })) (targets b.terminator.form)

abbrev pub edges_of : FunctionDefinition → List Edge
edges_of f = flat_map (block_edges f) f.blocks

-- the number behind that of an edge's node, if it has one
abbrev pub behind_edge : List Phi → ℕ → ℕ
behind_edge [] k = k
behind_edge (p ∷ ps) k = k + 1

-- where a label leads: to the node of the edge, which has number k, or to the block's first node
abbrev pub led_by : List Phi → ℕ → ℕ → NodeId
led_by [] k start = at start
led_by (p ∷ ps) k start = at k

abbrev pub led_to : FunctionDefinition → ℕ → Name → NodeId
led_to f k to = led_by (phis_of f to.text) k (start_of f to.text)

abbrev pub behind : FunctionDefinition → ℕ → Name → ℕ
behind f k to = behind_edge (phis_of f to.text) k

-- the value that a phi has where control comes from a label: the first that is written
abbrev pub value_from : List ℕ → List Incoming → Option Value
value_from name [] = None
value_from name (i ∷ is) = if same i.label.text name then Some i.value else value_from name is
