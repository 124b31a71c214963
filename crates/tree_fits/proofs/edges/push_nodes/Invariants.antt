use Rattle.std.proofs.Common.{◌≡◌, ◌++◌, ◌∷◌, [], true, drop, map}
use Rattle.ir_tree.specs.declared.instructions.Instruction.{Instruction}
use Rattle.ir_programs.specs.Edges as spec
use Rattle.tree_fits.proofs.edges.push_nodes.Given as goal

abbrev pub invariant-each : goal.invariant-each
invariant-each l = l.tests.items ++ spec.with_first l.first (map (λ (i : Instruction). true) (drop l.index l.instructions) ++ l.branch ∷ []) ≡ l.initial.tests.items ++ spec.with_first l.phis (map (λ (i : Instruction). true) l.instructions ++ l.branch ∷ [])
