-- Bad edges (Language Reference, "phi Instruction", and "Functions": the entry block has no predecessors): a branch to the first block, and phis whose labels aren't exactly the predecessors of their block.
use Rattle.std.specs.Prelude.{ℕ, Bool, true, not, ◌&&◌, ◌||◌, List, [], ◌∷◌, ◌++◌, map}
use Rattle.std.specs.List.{flat_map, filter, list_all}
use Rattle.flat_ir.specs.declared.names.NodeId.{NodeId}
use Rattle.ir_tree.specs.Spelling.{value_tokens}
use Rattle.ir_tree.specs.Texts.{same}
use Rattle.ir_tree.specs.declared.constants.Value.{Value}
use Rattle.ir_tree.specs.declared.instructions.Block.{Block}
use Rattle.ir_tree.specs.declared.instructions.Incoming.{Incoming}
use Rattle.ir_tree.specs.declared.instructions.Phi.{Phi}
use Rattle.ir_tree.specs.declared.module.FunctionDefinition.{FunctionDefinition}
use Rattle.ir_programs.specs.Texts.{among, same_all, texts}
use Rattle.ir_programs.specs.Parts.{targets, phi_labels}
use Rattle.ir_programs.specs.Locals.{label_of}
use Rattle.ir_programs.specs.Fits.{where_false}

-- the labels of the blocks that lead to a block
abbrev pub predecessors : FunctionDefinition → List ℕ → List (List ℕ)
predecessors f name = map label_of (filter (λ b. among name (texts (targets b.terminator.form))) f.blocks)

-- two values are written alike
abbrev pub same_value : Value → Value → Bool
same_value v w = same_all (value_tokens v) (value_tokens w)

-- a label that is repeated has the same value
abbrev pub agree : List Incoming → Bool
agree [] = true
agree (i ∷ is) = list_all (λ j. not (same i.label.text j.label.text) || same_value i.value j.value) is && agree is

abbrev pub is_phi_of : List (List ℕ) → Phi → Bool
is_phi_of sources p =
    list_all (λ l. among l sources) (texts (phi_labels p)) && (list_all (λ l. among l (texts (phi_labels p))) sources && agree p.incoming)

abbrev pub are_phis_right : FunctionDefinition → Block → Bool
are_phis_right f b = list_all (is_phi_of (predecessors f (label_of b))) b.phis

abbrev pub first_label : List Block → List (List ℕ)
first_label [] = []
first_label (b ∷ bs) = label_of b ∷ []

-- the block doesn't lead to the first one
abbrev pub leads_right : FunctionDefinition → Block → Bool
leads_right f b = list_all (λ to. not (among to (first_label f.blocks))) (texts (targets b.terminator.form))

-- the first node stands for the phis
abbrev pub with_first : Bool → List Bool → List Bool
with_first right [] = []
with_first right (x ∷ xs) = (right && x) ∷ xs

-- for each node of a block whether its edges are good: the terminator stands for the branch
abbrev pub block_edges_right : FunctionDefinition → Block → List Bool
block_edges_right f b = with_first (are_phis_right f b) (map (λ i. true) b.instructions ++ leads_right f b ∷ [])

abbrev pub bad_edges_of : FunctionDefinition → List NodeId
bad_edges_of f = where_false 0 (flat_map (block_edges_right f) f.blocks)
