-- Nodes of edges, and of blocks one behind the other.
use Rattle.std.proofs.Common.{◌≡◌, ◌∙◌, ℕ, suc, ◌+◌, ◌<◌, List, [], ◌∷◌, ◌++◌, map, length, drop, get_or, refl, sym, ap, append_assoc, add-one, drop-cons}
use Rattle.std.proofs.lemmas.List.{map-append}
use Rattle.flat_ir.specs.declared.nodes.Node.{Node}
use Rattle.ir_tree.specs.declared.types.Name.{Name}
use Rattle.ir_tree.specs.declared.instructions.Block.{Block}
use Rattle.ir_tree.specs.declared.instructions.Instruction.{Instruction}
use Rattle.ir_tree.specs.declared.module.FunctionDefinition.{FunctionDefinition}
use Rattle.ir_tree.specs.declared.module.IrTree.{IrTree}
use Rattle.ir_programs.specs.Flow.{at, edge_if, phis_of, size_of_block, block_edges}
use Rattle.ir_programs.specs.Nodes.{edge_node, instruction_node, instruction_nodes, terminator_node, nodes_from}
use Rattle.tree_nodes.specs.Edges.{edges_to, target_nodes}

pub mapped : (t : IrTree) (f : FunctionDefinition) (source : List ℕ) (names : List Name) → target_nodes t f source names ≡ map (edge_node t f) (edges_to f source names)
mapped t f source [] = refl
mapped t f source (to ∷ names) =
    let own = edge_if (phis_of f to.text) (record { source = source; target = to.text }) in
    ap (λ (xs : List Node). map (edge_node t f) own ++ xs) (mapped t f source names) ∙ sym (map-append (edge_node t f) own (edges_to f source names))

-- the nodes of one more block
pub block_more : (t : IrTree) (f : FunctionDefinition) (n k m j : ℕ) (b : Block) (rest : List Block) (made now all : List Node) →
    m ≡ n + size_of_block b → j ≡ k + length (block_edges f b) →
    now ≡ made ++ (instruction_nodes t f n b.instructions ++ terminator_node t f k b.terminator.form ∷ []) →
    made ++ nodes_from t f n k (b ∷ rest) ≡ all → now ++ nodes_from t f m j rest ≡ all
block_more t f n k m j b rest made now all first edge is before =
    let own = instruction_nodes t f n b.instructions in
    let last = terminator_node t f k b.terminator.form in
    let more : List Node = nodes_from t f (n + size_of_block b) (k + length (block_edges f b)) rest in
    let same : nodes_from t f m j rest ≡ more = ap (λ (x : ℕ). nodes_from t f x j rest) first ∙ ap (λ (x : ℕ). nodes_from t f (n + size_of_block b) x rest) edge in
    ap (λ (xs : List Node). xs ++ nodes_from t f m j rest) is
    ∙ (ap (λ (xs : List Node). (made ++ (own ++ last ∷ [])) ++ xs) same
    ∙ (append_assoc made (own ++ last ∷ []) more
    ∙ (ap (λ (xs : List Node). made ++ xs) (append_assoc own (last ∷ []) more) ∙ before)))

-- the nodes of one more instruction
pub instruction_more : (t : IrTree) (f : FunctionDefinition) (n m : ℕ) (i : Instruction) (xs rest : List Instruction) (made now all : List Node) (one : Node) →
    m ≡ n + 1 → xs ≡ i ∷ rest → one ≡ instruction_node t f (at m) i → now ≡ made ++ one ∷ [] →
    made ++ instruction_nodes t f n xs ≡ all → now ++ instruction_nodes t f m rest ≡ all
instruction_more t f n m i xs rest made now all one next is node more before =
    ap (λ (ns : List Node). ns ++ instruction_nodes t f m rest) (more ∙ ap (λ (x : Node). made ++ x ∷ []) node)
    ∙ (append_assoc made (instruction_node t f (at m) i ∷ []) (instruction_nodes t f m rest)
    ∙ (ap (λ (x : ℕ). made ++ (instruction_node t f (at x) i ∷ instruction_nodes t f x rest)) next
    ∙ (ap (λ (l : List Instruction). made ++ instruction_nodes t f n l) (sym is) ∙ before)))

-- an element, and what follows it
pub item_next : {X : Type 0} (xs : List X) (i : ℕ) (x : X) → i < length xs → x ≡ get_or xs i x → drop i xs ≡ x ∷ drop (i + 1) xs
item_next xs i x h e = rw add-one (drop-cons xs i x h ∙ ap (λ y. y ∷ drop (suc i) xs) (sym e))
