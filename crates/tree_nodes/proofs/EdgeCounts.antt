-- Numbers behind those of edges.
use Rattle.std.proofs.Common.{◌≡◌, ◌∙◌, ℕ, ◌+◌, List, [], ◌∷◌, ◌++◌, length, map, arith}
use Rattle.ir_tree.specs.declared.types.Name.{Name}
use Rattle.ir_tree.specs.declared.instructions.Case.{Case}
use Rattle.ir_tree.specs.declared.instructions.Phi.{Phi}
use Rattle.ir_tree.specs.declared.module.FunctionDefinition.{FunctionDefinition}
use Rattle.ir_programs.specs.Flow.{Edge, behind, behind_edge, edge_if, phis_of}
use Rattle.ir_programs.specs.Nodes.{behind_cases}
use Rattle.ir_programs.specs.Parts.{case_label}
use Rattle.tree_nodes.specs.Edges.{edges_to}

one_edge : (ps : List Phi) (k : ℕ) (e : Edge) (rest : List Edge) → behind_edge ps k + length rest ≡ k + length (edge_if ps e ++ rest)
one_edge [] k e rest = omega arith
one_edge (p ∷ ps) k e rest = omega arith

pub behind_all : (f : FunctionDefinition) (source : List ℕ) (k : ℕ) (cases : List Case) (default : Name) →
    behind f (behind_cases f k cases) default ≡ k + length (edges_to f source (map case_label cases ++ default ∷ []))
behind_all f source k [] default = omega (arith, one_edge (phis_of f default.text) k (record { source = source; target = default.text }) [])
behind_all f source k (c ∷ cs) default =
    behind_all f source (behind f k c.label) cs default
    ∙ one_edge (phis_of f c.label.text) k (record { source = source; target = c.label.text }) (edges_to f source (map case_label cs ++ default ∷ []))
