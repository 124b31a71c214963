use Rattle.std.proofs.Common.{◌≡◌, ◌++◌, drop, map}
use Rattle.ir_programs.specs.Parts as spec
use Rattle.flat_ir.specs.declared.nodes.RegType.TheVariants.{Int}
use Rattle.tree_constants.specs.Values.{lent, bare}
use Rattle.tree_constants.proofs.values.push_indices.Given as goal

abbrev pub invariant-loop-index : goal.invariant-loop-index
invariant-loop-index l = lent l.values.items ++ bare (map (λ i. spec.written (Int i.width) i.value) (drop l.index-index l.indices)) ≡ lent l.initial.values.items ++ bare (map (λ i. spec.written (Int i.width) i.value) l.indices)
